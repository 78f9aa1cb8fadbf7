-- Sums and maxima over the values from 1 on. Assumes nothing.
use Prim.Native.Nat.{ℕ, zero, suc, ◌+◌, ◌*◌, ◌-◌, ◌≤◌, ◌<◌, max}
use mathlib.Core.Path.{◌≡◌, ap, ap₂, sym, ◌∙◌}
use mathlib.Core.Logic.{◌⊎◌, inl, inr}
use native.Mathlib.Nat.{eq-or-lt_of_le, zero-add}
use native.Mathlib.Omega.{arith}
use Rattle.code_theory.specs.Internal.{sum_from1, max_from1}

-- the sum and the maximum over the values from 1 to v, by those up to v - 1
pub sum_more : (v : ℕ) (f : ℕ → ℕ) → 1 ≤ v → sum_from1 (v + 1 - 1) f ≡ sum_from1 (v - 1) f + f v
unfolding sum_from1
sum_more v f h =
    let e : v + 1 - 1 ≡ suc (v - 1) = omega arith in
    let g : suc (v - 1) ≡ v = omega arith in
    ap (λ z. sum_from1 z f) e ∙ ap (λ z. sum_from1 (v - 1) f + f z) g

pub max_more : (v : ℕ) (f : ℕ → ℕ) → 1 ≤ v → max_from1 (v + 1 - 1) f ≡ max (max_from1 (v - 1) f) (f v)
unfolding max_from1
max_more v f h =
    let e : v + 1 - 1 ≡ suc (v - 1) = omega arith in
    let g : suc (v - 1) ≡ v = omega arith in
    ap (λ z. max_from1 z f) e ∙ ap (λ z. max (max_from1 (v - 1) f) (f z)) g

-- the sum of the terms up to v is at most that of the terms up to n
pub sum_part : (v n : ℕ) (f : ℕ → ℕ) → v ≤ n → sum_from1 v f ≤ sum_from1 n f
unfolding sum_from1
sum_part v zero f h = let e : v ≡ 0 = omega arith in rw e (omega arith)
sum_part v (suc n) f h = go (eq-or-lt_of_le h) (sum_part v n f)
  where
    go : (v ≡ suc n) ⊎ (v < suc n) → (v ≤ n → sum_from1 v f ≤ sum_from1 n f) → sum_from1 v f ≤ sum_from1 (suc n) f
    go (inl e) ih = rw e (omega arith)
    go (inr l) ih = omega (arith, ih (omega arith))

-- the terms before v and the term of v are at most all terms before q
pub sum_within : (v q : ℕ) (f : ℕ → ℕ) → 1 ≤ v → v < q → sum_from1 (v - 1) f + f v ≤ sum_from1 (q - 1) f
sum_within v q f h l = omega (arith, sum_more v f h, sum_part (v + 1 - 1) (q - 1) f (omega arith))

-- the maximum is at most the sum
pub max_le_sum : (n : ℕ) (f : ℕ → ℕ) → max_from1 n f ≤ sum_from1 n f
unfolding max_from1 sum_from1
max_le_sum zero f = omega arith
max_le_sum (suc n) f = omega (arith, max_le_sum n f)

-- THE LOOP at v: b is the number of votes for the values from 1 to v - 1, and m the most for one of them
module _ (q v b m : ℕ) (f : ℕ → ℕ) (eb : b ≡ sum_from1 (v - 1) f) (em : m ≡ max_from1 (v - 1) f) where
  -- a pass of the loop adds the n votes for v
  pub step_sum : (n : ℕ) → 1 ≤ v → n ≡ f v → b + n ≡ sum_from1 (v + 1 - 1) f
  step_sum n h e = ap₂ (λ x y. x + y) eb e ∙ sym (sum_more v f h)

  pub step_max : (n r : ℕ) → 1 ≤ v → n ≡ f v → r ≡ max m n → r ≡ max_from1 (v + 1 - 1) f
  step_max n r h e g = g ∙ ap₂ max em e ∙ sym (max_more v f h)

  pub step_fits : (n s : ℕ) → 1 ≤ v → v < q → n ≡ f v → sum_from1 (q - 1) f < s → b + n < s
  step_fits n s h l e g = omega (arith, eb, e, g, sum_within v q f h l)

  -- at the end of the loop v is q
  pub last_fits : (h : ℕ) → v ≡ q → 2 * sum_from1 (q - 1) f ≤ h → b + m ≤ h
  last_fits h e g = omega (arith, eb, em, ap (λ z. sum_from1 (z - 1) f) e, max_le_sum (v - 1) f, g)

  pub last_is : (h : ℕ) → v ≡ q → h - b - m ≡ h - sum_from1 (q - 1) f - max_from1 (q - 1) f
  last_is h e = ap₂ (λ x y. h - x - y) (eb ∙ ap (λ z. sum_from1 (z - 1) f) e) (em ∙ ap (λ z. max_from1 (z - 1) f) e)

-- ONE OTHER VALUE: for q 2 the sum and the maximum are the term of 1
pub one_sum : (q : ℕ) (f : ℕ → ℕ) → q ≡ 2 → sum_from1 (q - 1) f ≡ f 1
unfolding sum_from1
one_sum q f e = ap (λ z. sum_from1 (z - 1) f) e ∙ zero-add (f 1)

one_max : (q : ℕ) (f : ℕ → ℕ) → q ≡ 2 → max_from1 (q - 1) f ≡ f 1
unfolding max_from1
one_max q f e = let m : max 0 (f 1) ≡ f 1 = omega arith in ap (λ z. max_from1 (z - 1) f) e ∙ m

pub one_other : (q h : ℕ) (f : ℕ → ℕ) → q ≡ 2 → h - f 1 - f 1 ≡ h - sum_from1 (q - 1) f - max_from1 (q - 1) f
one_other q h f e = ap₂ (λ x y. h - x - y) (sym (one_sum q f e)) (sym (one_max q f e))
