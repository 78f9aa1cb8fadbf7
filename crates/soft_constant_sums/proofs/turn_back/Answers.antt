-- `turn_back` meets its contract, turn by turn.
use Prim.Native.Nat.{◌+◌}
use native.Mathlib.Omega.{arith}
use lib.Bits.{and_mask}
use Rattle.soft_vote_sums.specs.Pair.{pair}
use Rattle.soft_constant_sums.proofs.TurnLaws.{turn_table}
use Rattle.soft_constant_sums.proofs.turn_back.Goals as goal

pub offset_bounds-parts-i-2 : goal.offset_bounds-parts-i-2
offset_bounds-parts-i-2 c = omega (arith, and_mask (c.from-i.result + 1) 2)

pub bounds-parts-i-2 : goal.bounds-parts-i-2
bounds-parts-i-2 c = omega (arith, and_mask (c.from-i.result + 1) 2)

pub returns : goal.returns
unfolding pair
returns c = turn_table c.args.t c.from-i.result c.args.z.re c.args.z.im c.from-i.ensures c.requires
