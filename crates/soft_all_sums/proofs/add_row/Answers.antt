-- `add_row` meets its contract.
use mathlib.Core.Path.{ap₂, ◌∙◌}
use lib.ListN.{length}
use Rattle.std.proofs.lemmas.List.{length_push}
use Rattle.std.proofs.lemmas.Slice.Zip.{zip_turn, zip_end}
use Rattle.soft_theory.specs.Numbers.{f32}
use Rattle.soft_vote_sums.specs.Pair.{pair}
use Rattle.soft_vote_sums.specs.Internal.{complex}
use Rattle.soft_all_sums.proofs.RowLaws.{row_next, row_end, eight_pairs}
use Rattle.soft_all_sums.proofs.add_row.Goals as goal

pub loop-re-preserved : goal.loop-re-preserved
unfolding pair
loop-re-preserved c =
    let l = c.loop-re in
    let t = zip_turn c.args.row.re c.args.row.im l.yielded c.into_iter-re-iterator.result l.re-iterator c.next.new.self c.next.result (cc) (cc) l.yielded_by (c.in-Some.re, c.in-Some.im) c.in-Some.is c.next.ensures.steps in
    row_next _ _ _ _ (length l.yielded) _ (pair l.s) _ _ (length_push l.yielded (c.in-Some.re, c.in-Some.im)) l.invariant
    (ap₂ complex (t.2 (f32.number 0)) (t.3 (f32.number 0)) ∙ c.requires.0.each (length l.yielded) (rw (← c.requires.0.reals) t.0))
    c.add-s.ensures

pub returns : goal.returns
returns c =
    let l = c.loop-re in
    row_end _ _ _ _ (length l.yielded) _
    (zip_end c.args.row.re c.args.row.im l.yielded c.into_iter-re-iterator.result l.re-iterator c.next.new.self c.next.result (cc) (cc) l.yielded_by c.in-None.is c.next.ensures.steps
    ∙ eight_pairs _ _ _ _ _ _ c.requires.0)
    l.invariant
