-- `put_rows` meets its contract.
use native.Mathlib.Omega.{arith}
use Rattle.soft_all_sums.proofs.RowLaws.{rows_none, rows_next, rows_all}
use Rattle.soft_all_sums.proofs.put_rows.Goals as goal

pub loop-k-init : goal.loop-k-init
loop-k-init c =
    (omega arith, c.args.samples.low, rows_none _ _ _ _ c.requires.1)

pub loop-k-preserved : goal.loop-k-preserved
loop-k-preserved c =
    (omega arith, omega arith, rows_next _ _ _ c.loop-k.k _ _ (omega (arith, c.args.samples.high)) c.loop-k.invariant.2 c.eight_votes.ensures)

pub returns : goal.returns
returns c = rows_all _ _ _ c.loop-k.k _ _ (omega arith) c.loop-k.invariant.2
