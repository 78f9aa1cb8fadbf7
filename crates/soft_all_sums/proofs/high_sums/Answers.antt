-- `high_sums` meets its contract. The outer loop's invariant: the sums of the first 8 b votes; the inner one's: those below k have eight
-- more.
use mathlib.Core.Path.{refl, ◌∙◌}
use native.Mathlib.Omega.{arith}
use Rattle.soft_vote_sums.proofs.Steps.{sized}
use Rattle.soft_all_sums.proofs.RowLaws.{sums_zero, stored_none, stored_next, sums_more, sums_blocks, held_is, row_at}
use Rattle.soft_all_sums.proofs.high_sums.Goals as goal

pub loop-b-init : goal.loop-b-init
loop-b-init c = (omega arith, refl, sums_zero 2 _ _ _ _ c.no_sums-all.ensures)

pub loop-k-init : goal.loop-k-init
loop-k-init c =
    (omega arith, c.args.samples.low, stored_none _ _ _ c.loop-b.invariant.2.rest.size)

pub add_row-requires : goal.add_row-requires
add_row-requires c =
    let k = c.loop-k.k in (
      row_at _ _ _ k c.args.samples.m _ _ c.put_rows.ensures c.loop-k.invariant.0 (omega arith) c.args.samples.high,
      held_is c.loop-k.all k _ (omega (arith, c.loop-k.invariant.2.size, c.args.samples.high))
          ∙ c.loop-k.invariant.2.rest k (omega arith) ∙ c.loop-b.invariant.2.each k c.loop-k.invariant.0 (omega arith),
    )

pub loop-k-preserved : goal.loop-k-preserved
loop-k-preserved c =
    (omega arith, omega arith, stored_next _ _ _ c.loop-k.all c.loop-k.k _ (omega (arith, c.args.samples.high)) c.loop-k.invariant.2 c.add_row.ensures)

pub loop-b-preserved : goal.loop-b-preserved
loop-b-preserved c =
    (omega arith, c.put_rows.ensures.size, sums_more _ _ _ 2 _ c.loop-k.k _ _ (omega arith) c.loop-b.invariant.2.rest c.loop-k.invariant.2)

pub returns : goal.returns
returns c =
    sums_blocks _ _ _ c.loop-b.b _ (sized c.args.samples) c.requires (omega arith) c.loop-b.invariant.2
