-- `parts_below` meets its contract. A part that is lent once more, whole, is the same: `take_all` is for that.
use Rattle.std.proofs.Common.{ℕ, ◌≡◌, true, length, ◌∙◌, arith}
use mathlib.Core.Path.{subst}
use lib.Seq.{take_all}
use Rattle.std.proofs.lemmas.List.{length_push}
use Rattle.code_questions.specs.Internal.{Tells}
use Rattle.interleave_checked.proofs.EightLaws.{part_rest, part_within, part_tells, tells_same, parts_end, parts_next, parts_no}
use Rattle.interleave_checked.proofs.parts_below.Goals as goal

pub returns-then-not-eights_below : goal.returns-then-not-eights_below
returns-then-not-eights_below c =
    let v = c.loop-part.invariant in
    let h = c.in-Some.ensures.steps in
    let s = c.args.s.now in
    let size : length c.in-Some.part.now ≡ 512 = h.1.1 ∙ v.0 in
    let whole = take_all {A = ℕ} in
    let told : Tells c.eights_below.result c.args.q (length c.in-Some.part.now) c.in-Some.part.now 0 = tells_same _ _ _ _ c.eights_below.ensures (search arith) in
    parts_no c.args.q 512 (length c.loop-part.yielded) s _ (part_within 512 _ s _ _ _ v.1 v.2 h.1.0 size) c.if-not-eights_below.true
    (part_tells 512 _ s _ _ _ v.1 v.2 h.1.0 size _ c.args.q told)

pub loop-part-preserved : goal.loop-part-preserved
loop-part-preserved c =
    let v = c.loop-part.invariant in
    let h = c.in-Some.ensures.steps in
    let s = c.args.s.now in
    let size : length c.in-Some.part.now ≡ 512 = h.1.1 ∙ v.0 in
    let whole = take_all {A = ℕ} in
    let told : Tells c.eights_below.result c.args.q (length c.in-Some.part.now) c.in-Some.part.now 0 = tells_same _ _ _ _ c.eights_below.ensures (search arith) in
    rw length_push (
      h.0 ∙ v.0,
      part_rest 512 _ s _ _ _ v.1 v.2 h.1.0 size,
      part_within 512 _ s _ _ _ v.1 v.2 h.1.0 size,
      parts_next c.args.q 512 _ s _ c.if-not-eights_below.false v.3 (part_tells 512 _ s _ _ _ v.1 v.2 h.1.0 size _ c.args.q told),
    )

pub returns : goal.returns
returns c =
    let l = c.loop-part in
    let v = l.invariant in
    let h = c.in-None.ensures.steps in
    let s = c.args.s.now in
    subst (λ n. Tells true c.args.q n s 0) (parts_end 512 (length l.yielded) s _ v.1 v.2 (omega (arith, h.1.0, v.0)) c.requires.1) v.3
