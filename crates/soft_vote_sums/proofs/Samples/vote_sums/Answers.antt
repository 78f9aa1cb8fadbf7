-- `vote_sums` meets its contract.
use Prim.Native.Nat.{◌+◌, ◌*◌}
use mathlib.Core.Path.{refl}
use native.Mathlib.Omega.{arith}
use lib.Pow.{pow_mono}
use Rattle.soft_vote_sums.specs.Pair.{pair}
use Rattle.soft_vote_sums.proofs.Steps.{sized, few_votes, step_room, onward_rooms, onward_vote, votes_none, votes_next, votes_end}
use Rattle.soft_vote_sums.proofs.Samples.vote_sums.Goals as goal

pub offset_bounds-self-step : goal.offset_bounds-self-step
offset_bounds-self-step c =
    omega (arith, step_room c.args.self.m c.args.k c.pow2-step.result c.args.self.re.now c.args.self.im.now (sized c.args.self) c.requires c.pow2-step.ensures)

pub slice_bounds-yr-count : goal.slice_bounds-yr-count
slice_bounds-yr-count c =
    (step_room _ _ _ _ _ (sized c.args.self) c.requires c.pow2-step.ensures).0

pub slice_bounds-yr-start : goal.slice_bounds-yr-start
slice_bounds-yr-start c =
    (step_room _ _ _ _ _ (sized c.args.self) c.requires c.pow2-step.ensures).0

pub offset_bounds-self-step-2 : goal.offset_bounds-self-step-2
offset_bounds-self-step-2 c =
    omega (arith, step_room c.args.self.m c.args.k c.pow2-step.result c.args.self.re.now c.args.self.im.now (sized c.args.self) c.requires c.pow2-step.ensures)

pub slice_bounds-yi-count : goal.slice_bounds-yi-count
slice_bounds-yi-count c =
    (step_room _ _ _ _ _ (sized c.args.self) c.requires c.pow2-step.ensures).1

pub slice_bounds-yi-start : goal.slice_bounds-yi-start
slice_bounds-yi-start c =
    (step_room _ _ _ _ _ (sized c.args.self) c.requires c.pow2-step.ensures).1

pub loop-b-init : goal.loop-b-init
unfolding pair
loop-b-init c = (omega arith, refl, votes_none _ _ _)

pub nth_clear-requires : goal.nth_clear-requires
nth_clear-requires c =
    few_votes _ _ _ _ _ (sized c.args.self) c.requires (omega arith)

pub vote_of-requires : goal.vote_of-requires
vote_of-requires c =
    onward_rooms _ _ (2 * c.loop-b.b) _ _ (sized c.args.self) c.requires (omega arith) _ _ c.nth_clear.ensures c.pow2-step.ensures

pub nth_clear-requires-in-loop-b : goal.nth_clear-requires-in-loop-b
nth_clear-requires-in-loop-b c =
    few_votes _ _ _ _ _ (sized c.args.self) c.requires (omega arith)

pub vote_of-requires-in-loop-b : goal.vote_of-requires-in-loop-b
vote_of-requires-in-loop-b c =
    onward_rooms _ _ (2 * c.loop-b.b + 1) _ _ (sized c.args.self) c.requires (omega arith) _ _
    c.nth_clear-in-loop-b.ensures c.pow2-step.ensures

pub overflow_step-b : goal.overflow_step-b
overflow_step-b c =
    omega (arith, c.args.self.reals, pow_mono {i = c.args.self.m} {j = 8} c.args.self.high)

pub loop-b-preserved : goal.loop-b-preserved
loop-b-preserved c = (
  omega arith,
  refl,
  votes_next _ _ _ c.loop-b.b (pair c.loop-b.s) (pair c.add-s.result) _ (pair c.vote_of.result) (pair c.vote_of-in-loop-b.result)
      c.loop-b.invariant.2 (onward_vote _ _ _ _ _ _ _ c.nth_clear.ensures c.pow2-step.ensures c.vote_of.ensures) c.add-s.ensures
      (onward_vote _ _ _ _ _ _ _ c.nth_clear-in-loop-b.ensures c.pow2-step.ensures c.vote_of-in-loop-b.ensures) c.add-s-in-loop-b.ensures,
)

pub returns : goal.returns
returns c =
    votes_end _ _ _ _ c.loop-b.b _ (sized c.args.self) c.requires c.loop-b.invariant.2 (omega arith)
