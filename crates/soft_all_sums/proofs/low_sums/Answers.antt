-- `low_sums` meets its contract.
use native.Mathlib.Omega.{arith}
use Rattle.soft_all_sums.specs.Internal.{sums_of}
use Rattle.soft_all_sums.proofs.RowLaws.{stored_none, stored_next, stored_all}
use Rattle.soft_all_sums.proofs.low_sums.Goals as goal

pub loop-k-init : goal.loop-k-init
loop-k-init c = (omega arith, stored_none _ _ _ c.requires.1)

pub loop-k-preserved : goal.loop-k-preserved
unfolding sums_of
loop-k-preserved c =
    (omega arith, stored_next _ _ _ c.loop-k.all c.loop-k.k _ (omega (arith, c.requires.0, c.args.samples.high)) c.loop-k.invariant.1 c.vote_sums.ensures)

pub returns : goal.returns
returns c = stored_all _ _ _ _ c.loop-k.k _ (omega arith) c.loop-k.invariant.1
