-- `constant_sums` meets its contract.
use mathlib.Core.Path.{refl}
use native.Mathlib.Omega.{arith}
use lib.ListN.{length, length-take}
use lib.Pow.{pow_mono}
use Rattle.soft_vote_sums.specs.Pair.{pair}
use Rattle.soft_vote_sums.proofs.Steps.{sized}
use Rattle.soft_constant_sums.proofs.TurnLaws.{turn_read, back_none, back_next, back_plus, back_end}
use Rattle.soft_constant_sums.proofs.constant_sums.Goals as goal

pub slice_bounds-turn-items-end : goal.slice_bounds-turn-items-end
slice_bounds-turn-items-end c =
    let s = c.args.samples in
    omega (arith, length-take (length s.re.now) c.args.turns.now, s.reals, s.high, c.requires.size, pow_mono {i = s.m} {j = 8} s.high)

pub loop-i-init : goal.loop-i-init
unfolding pair
loop-i-init c = back_none _ _ _ _

pub at-requires : goal.at-requires
at-requires c = (turn_read _ _ _ _ _ (sized c.args.samples) c.requires c.loop-i.i c.loop-i-test.true).0

pub turn_back-requires : goal.turn_back-requires
turn_back-requires c = (turn_read _ _ _ _ _ (sized c.args.samples) c.requires c.loop-i.i c.loop-i-test.true).1

pub loop-i-preserved : goal.loop-i-preserved
loop-i-preserved c =
    back_next _ _ _ _ c.loop-i.i _ (pair c.loop-i.all) _ (pair c.at.result) c.loop-i.invariant
    (turn_read _ _ _ _ _ (sized c.args.samples) c.requires c.loop-i.i c.loop-i-test.true).2 c.at.ensures
    (back_plus _ _ _ _ _ _ c.add-all.ensures c.turn_back.ensures refl)

pub returns : goal.returns
returns c =
    back_end _ _ _ _ c.loop-i.i _ c.loop-i.invariant (omega (arith, c.loop-i-test.false, length-take (length c.args.samples.re.now) c.args.turns.now, c.args.samples.reals, c.args.samples.high, c.requires.size, pow_mono {i = c.args.samples.m} {j = 8} c.args.samples.high))
