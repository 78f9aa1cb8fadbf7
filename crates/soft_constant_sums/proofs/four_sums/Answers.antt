-- `four_sums` meets its contract: the four samples, one after the other.
use native.Mathlib.Omega.{arith}
use Rattle.soft_vote_sums.specs.Pair.{pair}
use Rattle.soft_constant_sums.proofs.TurnLaws.{masked_below, both_below, back_plus, four_back}
use Rattle.soft_constant_sums.proofs.four_sums.Goals as goal

pub turn_back-requires-2 : goal.turn_back-requires-2
turn_back-requires-2 c = (both_below _ c.requires.1).0

pub turn_back-requires-3 : goal.turn_back-requires-3
turn_back-requires-3 c = (both_below _ c.requires.1).1

pub overflow_add-a : goal.overflow_add-a
overflow_add-a c =
    omega (arith, (both_below _ c.requires.1).0, (both_below _ c.requires.1).1)

pub turn_back-requires-4 : goal.turn_back-requires-4
turn_back-requires-4 c = search masked_below

pub returns : goal.returns
unfolding pair
returns c =
    four_back _ c.requires.1 _ _ (pair c.add-one.result) (pair c.add-two.result) (pair c.add-three.result) _
    (back_plus 0 _ _ _ _ _ c.add-one.ensures c.turn_back.ensures c.at.ensures)
    (back_plus _ _ _ _ _ _ c.add-two.ensures c.turn_back-2.ensures c.at-2.ensures)
    (back_plus _ _ _ _ _ _ c.add-three.ensures c.turn_back-3.ensures c.at-3.ensures)
    (back_plus _ _ _ _ _ _ c.add.ensures c.turn_back-4.ensures c.at-4.ensures)
