-- `pairs` meets its contract.
use native.Mathlib.Omega.{arith}
use Rattle.decode_long_tally.proofs.PairLaws.{rows_none, rows_next, rows_all}
use Rattle.decode_long_tally.proofs.pairs.Goals as goal

pub loop-b-init : goal.loop-b-init
loop-b-init c = (omega arith, rows_none _ c.requires.2)

pub row-requires : goal.row-requires
row-requires c =
    (c.requires.0, omega (arith, c.requires.1), c.loop-b.invariant.1.size)

pub loop-b-smaller : goal.loop-b-smaller
loop-b-smaller c = omega (arith, c.requires.1)

pub loop-b-preserved : goal.loop-b-preserved
loop-b-preserved c =
    let l = c.loop-b in
    let few = c.requires.1 in
    (omega (arith, few), rows_next _ _ _ (omega (arith, few)) l.invariant.1 c.row.ensures)

pub returns : goal.returns
returns c = rows_all c.loop-b.b _ _ (omega arith) c.loop-b.invariant.1
