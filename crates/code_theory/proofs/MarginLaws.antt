-- Laws of the lead and the margin. Assumes nothing.
use Prim.Native.Nat.{ℕ, zero, suc, suc-le-suc, ◌*◌, ◌-◌, ◌/◌, ◌^◌, ◌≤◌, ◌<◌, min, max}
use mathlib.Core.Path.{◌≡◌, refl, ap, ap₂, ◌∙◌}
use mathlib.Core.Logic.{◌≢◌, ◌⊎◌, inl, inr}
use native.Mathlib.Decide.{ℕ_discrete}
use native.Mathlib.Omega.{arith}
use native.Mathlib.Nat.{not-suc-le-zero, eq-or-lt_of_le, le_of_suc-le-suc}
use Rattle.code_theory.specs.Index.{if_clear}
use Rattle.code_theory.specs.Modular.{same}
use Rattle.code_theory.specs.Near.{distance}
use Rattle.code_theory.specs.Vote.{tally}
use Rattle.code_theory.specs.Margin.{most_other, lead, least, margin}
use Rattle.code_theory.proofs.ModularLaws.{same_eq, same_ne}
use Rattle.code_theory.proofs.VoteLaws.{tally_own, tally_other, tally_ext}
use Rattle.code_theory.specs.Code.{Below}

pub most_other_le : (q v : ℕ) (f : ℕ → ℕ) (b : ℕ) → ((u : ℕ) → u < q → u ≢ v → f u ≤ b) → most_other q v f ≤ b
unfolding most_other if_clear
most_other_le zero v f b h = omega arith
most_other_le (suc u) v f b h = go (most_other_le u v f b (λ w l. h w (omega arith))) (ℕ_discrete u v)
  where
    go : most_other u v f ≤ b → Dec (u ≡ v) → max (most_other u v f) (if_clear (same u v) (f u)) ≤ b
    go ih (yes e) = rw (same_eq u v e) (omega arith)
    go ih (no d) = rw (same_ne u v d) (omega (arith, h u (omega arith) d))

-- the most for another value is at least what any one of them has
pub le_most_other : (q v : ℕ) (f : ℕ → ℕ) (u : ℕ) → u < q → u ≢ v → f u ≤ most_other q v f
unfolding most_other if_clear
le_most_other zero v f u l d = absurd (not-suc-le-zero l)
le_most_other (suc p) v f u l d = go (λ h. le_most_other p v f u h d) (eq-or-lt_of_le (le_of_suc-le-suc l))
  where
    go : (u < p → f u ≤ most_other p v f) → (u ≡ p) ⊎ (u < p) → f u ≤ max (most_other p v f) (if_clear (same p v) (f p))
    go ih (inl e) = rw (same_ne p v (λ x. d (e ∙ x))) (omega (arith, ap f e))
    go ih (inr h) = omega (arith, ih h)

pub most_other_ext : (q v : ℕ) (f g : ℕ → ℕ) → ((u : ℕ) → u < q → f u ≡ g u) → most_other q v f ≡ most_other q v g
unfolding most_other
most_other_ext zero v f g h = refl
most_other_ext (suc u) v f g h = ap₂ max (most_other_ext u v f g (λ w l. h w (omega arith))) (ap (if_clear (same u v)) (h u (omega arith)))

pub le_least : (n : ℕ) (f : ℕ → ℕ) (b : ℕ) → ((k : ℕ) → k < suc n → b ≤ f k) → b ≤ least n f
unfolding least
le_least zero f b h = h 0 (omega arith)
le_least (suc n) f b h = omega (arith, le_least n f b (λ k l. h k (omega arith)), h (suc n) (omega arith))

-- the least is at most any one of them
pub least_le : (n : ℕ) (f : ℕ → ℕ) (k : ℕ) → k < suc n → least n f ≤ f k
unfolding least
least_le zero f k l = let e : k ≡ 0 = omega arith in omega (arith, ap f e)
least_le (suc n) f k l = go (λ h. least_le n f k h) (eq-or-lt_of_le (le_of_suc-le-suc l))
  where
    go : (k < suc n → least n f ≤ f k) → (k ≡ suc n) ⊎ (k < suc n) → min (least n f) (f (suc n)) ≤ f k
    go ih (inl e) = omega (arith, ap f e)
    go ih (inr h) = omega (arith, ih h)

-- where the second is no larger than the first, the first does not decide the least
pub least_first : (n : ℕ) (f : ℕ → ℕ) → f 1 ≤ f 0 → least (suc n) f ≡ least n (λ k. f (suc k))
unfolding least
least_first zero f h = omega arith
least_first (suc n) f h = ap (λ x. min x (f (suc (suc n)))) (least_first n f h)

pub least_ext : (n : ℕ) (f g : ℕ → ℕ) → ((k : ℕ) → k < suc n → f k ≡ g k) → least n f ≡ least n g
unfolding least
least_ext zero f g h = h 0 (omega arith)
least_ext (suc n) f g h = ap₂ min (least_ext n f g (λ k l. h k (omega arith))) (h (suc n) (omega arith))

pub lead_ext : (q : ℕ) (v w : ℕ) (f g : ℕ → ℕ) → v ≡ w → ((u : ℕ) → f u ≡ g u) → lead q v f ≡ lead q w g
unfolding lead
lead_ext q v w f g e h = ap₂ (λ x y. x - y) (h v ∙ ap g e) (most_other_ext q v f g (λ u l. h u) ∙ ap (λ x. most_other q x g) e)

-- the margin depends only on the m + 1 symbols of the message
pub margin_ext : (q m : ℕ) (s t y : ℕ → ℕ) → ((k : ℕ) → k < suc m → s k ≡ t k) → margin q m s y ≡ margin q m t y
unfolding margin
margin_ext q m s t y h = least_ext m _ _ (λ k l. lead_ext q (s k) (t k) (tally q m s y k) (tally q m t y k) (h k l) (tally_ext q m s t y (λ j b. h (suc j) (suc-le-suc b)) k))

-- MARGIN: it is at least n / 2 - 2 × distance
pub margin_bound : (q m : ℕ) (s y : ℕ → ℕ) → 0 < q → Below q m s → 2 ^ m / 2 - 2 * distance q m s y ≤ margin q m s y
unfolding margin lead
margin_bound q m s y hq hs = le_least m _ _ (λ k l.
    omega (
      arith,
      tally_own q m s y hq k l (hs k l),
      most_other_le q (s k) (tally q m s y k) (distance q m s y) (λ u b d. tally_other q m s y hq k l (hs k l) u d),
    ))
