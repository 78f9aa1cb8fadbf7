-- Two sums in a slice of two. Assumes nothing.
use mathlib.Core.Path.{◌≡◌, refl, ap, sym, ◌∙◌}
use mathlib.Core.Bool.{cond}
use mathlib.Core.List.{List, [], ◌∷◌}
use native.Mathlib.Omega.{arith}
use borrow.Author.Tests.{eq-eqb, ne_eqb}
use lib.ListN.{length, set}
use lib.Ieee.{Float}
use Rattle.soft_theory.specs.Complex.{Complex}
use Rattle.compare_soft.specs.Internal.{with_sums}

pub stored : (z : Complex Float) (l : List Float) → length l ≡ 2 → set (set l 0 z.re) 1 z.im ≡ with_sums z l
unfolding with_sums
stored z l e = two l e ∙ ap (λ b. cond b (z.re ∷ z.im ∷ []) l) (sym (eq-eqb (length l) 2 e))
  where
    two : (l : List Float) → length l ≡ 2 → set (set l 0 z.re) 1 z.im ≡ z.re ∷ z.im ∷ []
    two [] e = absurd (omega arith)
    two (x ∷ []) e = absurd (omega arith)
    two (x ∷ y ∷ []) e = refl
    two (x ∷ y ∷ w ∷ l) e = absurd (omega arith)

pub unstored : (z : Complex Float) (l : List Float) → (length l ≡ 2 → ⊥) → l ≡ with_sums z l
unfolding with_sums
unstored z l h = ap (λ b. cond b (z.re ∷ z.im ∷ []) l) (sym (ne_eqb (length l) 2 h))
