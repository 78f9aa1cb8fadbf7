-- `eight_votes` meets its contract.
use Prim.Native.Nat.{◌+◌, ◌%◌}
use mathlib.Core.Path.{ap, ◌∙◌}
use native.Mathlib.Omega.{arith}
use Rattle.soft_vote_sums.specs.Pair.{pair}
use Rattle.soft_vote_sums.proofs.Steps.{sized, nth_small}
use Rattle.soft_all_sums.proofs.RowLaws.{block_room, near, holds_none, holds_next, holds_all}
use Rattle.soft_all_sums.proofs.eight_votes.Goals as goal

pub loop-x-init : goal.loop-x-init
loop-x-init c = (omega arith, holds_none _ _ _ _ _ c.no_terms-row.ensures)

pub nth_clear-requires : goal.nth_clear-requires
nth_clear-requires c =
    (block_room _ _ _ _ _ c.loop-x.x (sized c.args.samples) c.requires.1 c.requires.2 (omega arith)).0

pub overflow_add-i : goal.overflow_add-i
overflow_add-i c =
    omega (arith, c.nth_clear.ensures, nth_small c.args.k _ (block_room _ _ _ _ _ c.loop-x.x (sized c.args.samples) c.requires.1 c.requires.2 (omega arith)).0.1)

pub vote_at-z-requires : goal.vote_at-z-requires
vote_at-z-requires c = (
  c.requires.1,
  (block_room _ _ _ _ _ c.loop-x.x (sized c.args.samples) c.requires.1 c.requires.2 (omega arith)).1,
  ap (λ n. n + c.loop-x.x % 4) c.nth_clear.ensures ∙ near c.args.k c.args.b c.loop-x.x c.requires.0,
)

pub loop-x-preserved : goal.loop-x-preserved
unfolding pair
loop-x-preserved c =
    (omega arith, holds_next _ _ _ _ c.loop-x.row c.loop-x.x _ _ (omega arith) c.loop-x.invariant.1 c.vote_at-z.ensures)

pub returns : goal.returns
returns c = holds_all _ _ _ _ _ c.loop-x.x (omega arith) c.loop-x.invariant.1
