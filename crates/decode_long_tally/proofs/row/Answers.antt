-- `row` meets its contract.
use Prim.Native.Nat.{◌<◌}
use native.Mathlib.Omega.{arith}
use Rattle.decode_long_tally.proofs.PairLaws.{row_none, row_next, row_all}
use Rattle.decode_long_tally.proofs.TallyLaws.{unit_le}
use Rattle.decode_long_tally.proofs.row.Goals as goal

pub loop-a-init : goal.loop-a-init
loop-a-init c = row_none _ _ c.requires.2

pub overflow_add-table : goal.overflow_add-table
overflow_add-table c =
    let a = c.loop-a.a in
    let l : a < 8 = omega arith in
    omega (arith, c.requires.0 a l, c.requires.0 c.args.b c.requires.1, unit_le a l, unit_le c.args.b c.requires.1)

pub loop-a-preserved : goal.loop-a-preserved
loop-a-preserved c =
    let l = c.loop-a in
    let k : l.a < 8 = omega arith in
    row_next _ _ _ _ _ _ l.invariant k c.requires.1 (c.requires.0 l.a k) (c.requires.0 c.args.b c.requires.1)

pub returns : goal.returns
returns c = row_all _ c.loop-a.a _ _ (omega arith) c.loop-a.invariant
