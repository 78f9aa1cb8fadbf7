-- `eights_below` meets its contract. Eight symbols that are lent once more, whole, are the same: `take_all` is for that.
use Rattle.std.proofs.Common.{ℕ, eqb, bit_and, ◌+◌, ◌*◌, ◌<◌, ◌≡◌, length, length-take, refl, sym, ap, ◌∙◌, arith}
use mathlib.Core.Path.{subst}
use lib.Seq.{take_all}
use native.Mathlib.Nat.{zero-add}
use Rattle.std.proofs.lemmas.List.{length_push}
use Rattle.code_theory.specs.Sum.{at}
use Rattle.swar_theory.specs.Internal.{digit}
use Rattle.code_questions.specs.Internal.{Tells}
use Rattle.interleave_checked.proofs.EightLaws.{gathered_none, gathered_next, part_rest, part_within, part_at, bytes_same, parts_end, eights_tell}
use Rattle.interleave_checked.proofs.eights_below.Goals as goal

pub loop-eight-init : goal.loop-eight-init
loop-eight-init c = (cc, cc, omega arith, gathered_none _ _)

-- there are eight symbols here, and as many in all
pub eight-all-requires : goal.eight-all-requires
eight-all-requires c =
    let v = c.loop-eight.invariant in
    let h = c.in-Some.ensures.steps in
    omega (arith, length-take {A = ℕ}, h.1.1, v.0, part_within 8 _ c.args.s.now _ _ _ v.1 v.2 h.1.0 (h.1.1 ∙ v.0))

pub loop-eight-preserved : goal.loop-eight-preserved
loop-eight-preserved c =
    let l = c.loop-eight in
    let v = l.invariant in
    let h = c.in-Some.ensures.steps in
    let s = c.args.s.now in
    let n : ℕ = length l.yielded in
    let size : length c.in-Some.eight.now ≡ 8 = h.1.1 ∙ v.0 in
    let whole = take_all {A = ℕ} in
    let bytes : (i : ℕ) → i < 8 → digit 8 c.eight-all.result i ≡ at c.in-Some.eight.now (0 + i) = bytes_same _ _ _ c.eight-all.ensures (search arith) in
    let place : (i : ℕ) → i < 8 → at c.in-Some.eight.now (0 + i) ≡ at s (0 + 8 * n + i) = λ i j. ap (at c.in-Some.eight.now) (zero-add i) ∙ part_at 8 n s _ _ _ v.1 v.2 h.1.0 size i j ∙ ap (λ k. at s (k + i)) (sym (zero-add (8 * n))) in
    rw length_push (
      h.0 ∙ v.0,
      part_rest 8 n s _ _ _ v.1 v.2 h.1.0 size,
      part_within 8 n s _ _ _ v.1 v.2 h.1.0 size,
      gathered_next s 0 n l.all c.eight-all.result _ v.3 (omega arith) (λ i j. bytes i j ∙ place i j) refl,
    )

pub returns : goal.returns
returns c =
    let l = c.loop-eight in
    let v = l.invariant in
    let h = c.in-None.ensures.steps in
    let s = c.args.s.now in
    let end : 8 * length l.yielded ≡ length s = parts_end 8 (length l.yielded) s _ v.1 v.2 (omega (arith, h.1.0, v.0)) c.requires.1 in
    subst (λ n. Tells (eqb (bit_and l.all c.mask.result) l.all) c.args.q n s 0) end (eights_tell c.args.q (length l.yielded) 0 (length l.yielded) l.all c.mask.result s c.requires.0 refl v.3 c.mask.ensures)
