-- What follows from the questions about the slices. Assumes nothing.
use Prim.Native.Nat.{ℕ, ◌*◌, ◌-◌}
use mathlib.Core.Path.{◌≡◌, refl, ap, sym, subst, ◌∙◌}
use mathlib.Core.List.{List}
use native.Mathlib.Omega.{arith}
use borrow.Author.Tests.{eqb-true}
use lib.Dec.{eqb}
use lib.ListN.{length, take}
use lib.Seq.{take_all}
use Rattle.code_theory.specs.Question.{ask}
use Rattle.code_theory.proofs.QuestionLaws.{ask_yes, ask_never, after_yes}
use Rattle.code_questions.specs.declared.Refusal.{Refusal}
use Rattle.code_questions.specs.Refusal.{number}
use Rattle.code_questions.proofs.RefusalLaws.{number_some, refused_after}
use Rattle.interleave_theory.specs.Place.{transposed}
use Rattle.interleave_theory.specs.Internal.{slices_refusal, Checked}

-- a source of another size is refused first, whatever the target is
pub source_no : (q size : ℕ) (x t : List ℕ) (r : Refusal) → number r ≡ ask (eqb (length x) size) 7 0 → number r ≡ slices_refusal q size x t
unfolding slices_refusal
source_no q size x t r e = e ∙ sym (ask_never (eqb (length x) size) 7 0 _ (λ d. absurd (d refl)) (λ z. absurd (omega (arith, z, e, number_some r))))

-- slices that pass have the size
pub sizes : (q size : ℕ) (x t : List ℕ) → 0 ≡ slices_refusal q size x t → (length x ≡ size) × (length t ≡ size)
unfolding slices_refusal
sizes q size x t e =
    let (s, e1) = ask_yes (eqb (length x) size) 6 _ (sym e) in
    let (d, _) = ask_yes (eqb (length t) size) 6 _ e1 in
    (eqb-true (length x) size s, eqb-true (length t) size d)

-- what a way leaves where its slices are refused, and where they pass
module _ (q a b size : ℕ) (x t : List ℕ) (e : size ≡ a * b) where
  pub checked_no : (r : Refusal) → number r ≡ slices_refusal q size x t → Checked q a b x t (number r) t
  checked_no r asked = record { number = asked ∙ ap (λ k. slices_refusal q k x t) e; target = sym (refused_after r (transposed a b x) t) }

  pub checked_yes : (y : List ℕ) → 0 ≡ slices_refusal q size x t → y ≡ transposed a b x → Checked q a b x t 0 y
  checked_yes y asked f = record { number = asked ∙ ap (λ k. slices_refusal q k x t) e; target = f ∙ sym (after_yes 0 (transposed a b x) t refl) }

-- a source that is lent as the part from place 0 on is the whole source
pub checked_part : (q a b k : ℕ) (x t y : List ℕ) → Checked q a b (take (length x - 0) x) t k y → Checked q a b x t k y
checked_part q a b k x t y c = subst (λ z. Checked q a b z t k y) (take_all (length x - 0) x (omega arith)) c
