-- Laws of steps taken upward, among them that the indices with bit k clear can be enumerated. Assumes nothing.
use Prim.Native.Nat.{ℕ, zero, suc, ◌*◌, ◌^◌, ◌≤◌, ◌<◌}
use mathlib.Core.Path.{◌≡◌, refl, ap, ap₂, sym, ◌∙◌, fun_ext}
use native.Mathlib.Nat.{pow-succ', not-suc-le-zero}
use native.Mathlib.Omega.{arith}
use Rattle.code_theory.specs.Index.{bit}
use Rattle.code_theory.specs.Internal.{nth_clear}
use Rattle.code_theory.proofs.IndexLaws.{bit_zero, bit_suc, nth_zero, nth_even, nth_odd}
use Rattle.soft_theory.specs.Complex.{step_if_clear, upward}

module _ {S : Type 0} where
  -- the steps matter only below n
  pub upward_ext : (n : ℕ) (closed : ℕ → ℕ) (f g : ℕ → S → S) (s : S) → ((i : ℕ) → i < n → (x : S) → f i x ≡ g i x) → upward n closed f s ≡ upward n closed g s
  unfolding upward
  upward_ext zero closed f g s h = refl
  upward_ext (suc n) closed f g s h =
      ap₂ (step_if_clear (closed n)) (fun_ext (h n (omega arith))) (upward_ext n closed f g s (λ i l. h i (omega arith)))

  -- the indices 2 j and 2 j + 1 in one step, where both are left out or none is
  upward_pairs : (n : ℕ) (closed half : ℕ → ℕ) (f : ℕ → S → S) (s : S) → ((j : ℕ) → closed (2 * j) ≡ half j) → ((j : ℕ) → closed (suc (2 * j)) ≡ half j)
      → upward (2 * n) closed f s ≡ upward n half (λ j x. f (suc (2 * j)) (f (2 * j) x)) s
  unfolding upward step_if_clear
  upward_pairs zero closed half f s even odd = refl
  upward_pairs (suc n) closed half f s even odd =
      let e : 2 * suc n ≡ suc (suc (2 * n)) = omega arith in
      rw (e, upward, even n, odd n, upward_pairs n closed half f s even odd) (both (half n) (f (2 * n)) (f (suc (2 * n))) _)
    where
      both : (b : ℕ) (g h : S → S) (x : S) → step_if_clear b h (step_if_clear b g x) ≡ step_if_clear b (λ y. h (g y)) x
      both zero g h x = refl
      both (suc b) g h x = refl

  -- the even indices alone
  upward_even : (n : ℕ) (f : ℕ → S → S) (s : S) → upward (2 * n) (bit 0) f s ≡ upward n (λ i. 0) (λ j. f (2 * j)) s
  unfolding upward step_if_clear
  upward_even zero f s = refl
  upward_even (suc n) f s =
      let e : 2 * suc n ≡ suc (suc (2 * n)) = omega arith in
      let e0 : bit 0 (2 * n) ≡ 0 = omega (arith, bit_zero (2 * n)) in
      let e1 : bit 0 (suc (2 * n)) ≡ 1 = omega (arith, bit_zero (suc (2 * n))) in
      rw (e, upward, e0, e1, upward_even n f s)

  -- ENUMERATION: the indices with bit k clear, upward, are nth_clear k 0, nth_clear k 1, and so on
  pub upward_clear : (k m : ℕ) → k ≤ m → (f : ℕ → S → S) (s : S) → upward (2 ^ suc m) (bit k) f s ≡ upward (2 ^ m) (λ i. 0) (λ j. f (nth_clear k j)) s
  upward_clear zero m h f s =
      rw (pow-succ' 2 m)
      (upward_even (2 ^ m) f s
      ∙ upward_ext (2 ^ m) _ _ _ s (λ j l x. ap (λ i. f i x) (sym (nth_zero j))))
  upward_clear (suc k) zero h f s = absurd (not-suc-le-zero h)
  upward_clear (suc k) (suc m) h f s =
      rw (pow-succ' 2 (suc m))
      (upward_pairs (2 ^ suc m) (bit (suc k)) (bit k) f s
      (λ j. bit_suc k (2 * j) ∙ ap (bit k) (omega arith))
      (λ j. bit_suc k (suc (2 * j)) ∙ ap (bit k) (omega arith))
      ∙ upward_clear k m (omega arith) (λ j x. f (suc (2 * j)) (f (2 * j) x)) s
      ∙ upward_ext (2 ^ m) _ _ _ s (λ j l x. ap₂ (λ a b. f b (f a x)) (sym (nth_even k j)) (sym (nth_odd k j)))
      ∙ sym (upward_pairs (2 ^ m) (λ i. 0) (λ i. 0) (λ j. f (nth_clear (suc k) j)) s (λ j. refl) (λ j. refl))
      ∙ ap (λ n. upward n (λ i. 0) (λ j. f (nth_clear (suc k) j)) s) (sym (pow-succ' 2 m)))
