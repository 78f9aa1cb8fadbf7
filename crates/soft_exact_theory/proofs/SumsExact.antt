-- Running sums of whole numbers are exact. Assumes nothing.
use mathlib.Core.Path.{sym}
use Prim.Native.Nat.{ℕ, zero, suc, ◌+◌, ◌*◌, ◌%◌, ◌^◌, ◌≤◌, ◌<◌}
use native.Mathlib.Nat.{mul-le-mul, pow-succ'}
use native.Mathlib.Omega.{arith}
use lib.IntN.{ℤ, ◌*ℤ◌, nat_abs}
use lib.Ieee.{Float}
use lib.Pow.{pow_mono}
use Rattle.code_theory.specs.Code.{linear}
use Rattle.code_theory.specs.Internal.{nth_clear}
use Rattle.code_theory.proofs.IndexLaws.{nth_partner_lt}
use Rattle.soft_theory.specs.Numbers.{f32, integers}
use Rattle.soft_theory.specs.Complex.{Complex, term, turn_back, plus, step_if_clear, upward, sums}
use Rattle.soft_theory.specs.Soft.{vote_sums, constant_sums}
use Rattle.soft_theory.proofs.SumsLaws.{votes_all}
use Rattle.soft_theory.specs.Internal.{votes_to}
use Rattle.soft_exact_theory.specs.Whole.{Whole, WholeParts, Within}
use Rattle.soft_exact_theory.proofs.Integers.{abs_add, abs_sub, abs_mul, abs_neg}
use Rattle.soft_exact_theory.proofs.WholeLaws.{whole_add, whole_sub, whole_mul, whole_neg, whole_number}

-- ---- one sample turned back
turn_whole : (t : ℕ) (x : Complex Float) (z : Complex ℤ) → WholeParts x z → WholeParts (turn_back f32 t x) (turn_back integers t z)
unfolding turn_back
turn_whole zero x z w = w
turn_whole (suc zero) x z w = record { re = w.im; im = whole_neg _ _ w.re }
turn_whole (suc (suc zero)) x z w = record { re = whole_neg _ _ w.re; im = whole_neg _ _ w.im }
turn_whole (suc (suc (suc t))) x z w = record { re = whole_neg _ _ w.im; im = w.re }

turn_within : (t b : ℕ) (z : Complex ℤ) → Within b z → Within b (turn_back integers t z)
unfolding turn_back
turn_within zero b z h = h
turn_within (suc zero) b z h = record { re = h.im; im = omega (arith, h.re, abs_neg z.re) }
turn_within (suc (suc zero)) b z h = record { re = omega (arith, h.re, abs_neg z.re); im = omega (arith, h.im, abs_neg z.im) }
turn_within (suc (suc (suc t))) b z h = record { re = omega (arith, h.im, abs_neg z.im); im = h.re }

-- ---- one term
product : (a b : ℤ) → nat_abs a ≤ 127 → nat_abs b ≤ 127 → nat_abs (a *ℤ b) ≤ 16129
product a b h k = omega (arith, abs_mul a b, mul-le-mul h k)

module _ (y p : Complex Float) (w z : Complex ℤ) (Y : WholeParts y w) (P : WholeParts p z) (h : Within 127 w) (k : Within 127 z) where
  pub term_within : Within 32258 (term integers w z)
  unfolding term
  term_within = record {
    re = omega (arith, abs_add (w.re *ℤ z.re) (w.im *ℤ z.im), product w.re z.re h.re k.re, product w.im z.im h.im k.im);
    im = omega (arith, abs_sub (w.im *ℤ z.re) (w.re *ℤ z.im), product w.im z.re h.im k.re, product w.re z.im h.re k.im);
  }

  pub term_whole : WholeParts (term f32 y p) (term integers w z)
  unfolding term
  term_whole = record {
    re = whole_add _ _ _ _ (times Y.re P.re h.re k.re) (times Y.im P.im h.im k.im) (omega (arith, term_within.re));
    im = whole_sub _ _ _ _ (times Y.im P.re h.im k.re) (times Y.re P.im h.re k.im) (omega (arith, term_within.im));
  }
    where
      times : {x v : Float} {a b : ℤ} → Whole x a → Whole v b → nat_abs a ≤ 127 → nat_abs b ≤ 127 → Whole (f32.mul x v) (a *ℤ b)
      times {x} {v} {a} {b} f g l m = whole_mul x v a b f g (omega (arith, product a b l m))

-- ---- n terms of at most b each: every running sum is exact
module _ (x : ℕ → Complex Float) (z : ℕ → Complex ℤ) (b : ℕ) where
  pub sums_within : (n : ℕ) → ((i : ℕ) → i < n → Within b (z i)) → Within (n * b) (sums integers n (λ i. 0) z)
  unfolding sums upward step_if_clear plus
  sums_within zero h = record { re = omega arith; im = omega arith }
  sums_within (suc n) h =
      let s = sums_within n (λ i l. h i (omega arith)) in
      let t = h n (omega arith) in
      record { re = omega (arith, abs_add (sums integers n (λ i. 0) z).re (z n).re, s.re, t.re); im = omega (arith, abs_add (sums integers n (λ i. 0) z).im (z n).im, s.im, t.im) }

  pub sums_whole : (n : ℕ) → ((i : ℕ) → i < n → WholeParts (x i) (z i)) → ((i : ℕ) → i < n → Within b (z i)) → n * b ≤ 16777216
      → WholeParts (sums f32 n (λ i. 0) x) (sums integers n (λ i. 0) z)
  unfolding sums upward step_if_clear plus
  sums_whole zero w h l = record { re = whole_number 0 (omega arith); im = whole_number 0 (omega arith) }
  sums_whole (suc n) w h l =
      let s = sums_whole n (λ i m. w i (omega arith)) (λ i m. h i (omega arith)) (omega arith) in
      let t = w n (omega arith) in
      let v = sums_within (suc n) h in
      record { re = whole_add _ _ _ _ s.re t.re (omega (arith, v.re)); im = whole_add _ _ _ _ s.im t.im (omega (arith, v.im)) }

-- ---- the samples at the 2 ^ m places
-- EXACT VOTES: both sums are the exact whole-number sums, at most 128 * 2 * 127 * 127 in magnitude
pub vote_sums_whole : (m k : ℕ) (y : ℕ → Complex Float) (z : ℕ → Complex ℤ) → k < m → m ≤ 8
    → ((i : ℕ) → i < 2 ^ m → WholeParts (y i) (z i)) → ((i : ℕ) → i < 2 ^ m → Within 127 (z i))
    → WholeParts (vote_sums f32 m k y) (vote_sums integers m k z) × Within 4129024 (vote_sums integers m k z)
unfolding votes_to
vote_sums_whole zero k y z h small whole within = absurd (omega arith)
vote_sums_whole (suc m) k y z h small whole within =
    let few : 2 ^ m ≤ 128 = pow_mono {i = m} {j = 7} (omega arith) in
    rw (← votes_all f32 (suc m) k (2 ^ m) y h (sym (pow-succ' 2 m)), ← votes_all integers (suc m) k (2 ^ m) z h (sym (pow-succ' 2 m)))
    (exact few)
  where
    partner : (j : ℕ) → j < 2 ^ m → nth_clear k j + 2 ^ k < 2 ^ suc m
    partner j l = nth_partner_lt k m j (omega arith) l

    terms : (j : ℕ) → j < 2 ^ m → Within 32258 (term integers (z (nth_clear k j + 2 ^ k)) (z (nth_clear k j)))
    terms j l = term_within _ _ _ _ (whole _ (partner j l)) (whole (nth_clear k j) (omega (arith, partner j l))) (within _ (partner j l)) (within (nth_clear k j) (omega (arith, partner j l)))

    wholes : (j : ℕ) → j < 2 ^ m → WholeParts (term f32 (y (nth_clear k j + 2 ^ k)) (y (nth_clear k j))) (term integers (z (nth_clear k j + 2 ^ k)) (z (nth_clear k j)))
    wholes j l = term_whole _ _ _ _ (whole _ (partner j l)) (whole (nth_clear k j) (omega (arith, partner j l))) (within _ (partner j l)) (within (nth_clear k j) (omega (arith, partner j l)))

    exact : 2 ^ m ≤ 128 → WholeParts (votes_to f32 k y (2 ^ m)) (votes_to integers k z (2 ^ m)) × Within 4129024 (votes_to integers k z (2 ^ m))
    exact few =
        let s = sums_within (λ i. term f32 (y (nth_clear k i + 2 ^ k)) (y (nth_clear k i))) (λ i. term integers (z (nth_clear k i + 2 ^ k)) (z (nth_clear k i))) 32258 (2 ^ m) terms in
        (sums_whole _ _ 32258 (2 ^ m) wholes terms (omega arith), record { re = omega (arith, s.re); im = omega (arith, s.im) })

-- EXACT CONSTANT: so are those of the constant, at most 256 * 127
pub constant_sums_whole : (m : ℕ) (c : ℕ → ℕ) (y : ℕ → Complex Float) (z : ℕ → Complex ℤ) → m ≤ 8
    → ((i : ℕ) → i < 2 ^ m → WholeParts (y i) (z i)) → ((i : ℕ) → i < 2 ^ m → Within 127 (z i))
    → WholeParts (constant_sums f32 m c y) (constant_sums integers m c z) × Within 32512 (constant_sums integers m c z)
unfolding constant_sums
constant_sums_whole m c y z small whole within =
    let room : 2 ^ m * 127 ≤ 32512 = omega (arith, pow_mono {i = m} {j = 8} small) in
    let s = sums_within (λ i. turn_back f32 (linear m c i % 4) (y i)) (λ i. turn_back integers (linear m c i % 4) (z i)) 127 (2 ^ m) terms in
    (sums_whole _ _ 127 (2 ^ m) (λ i l. turn_whole (linear m c i % 4) (y i) (z i) (whole i l)) terms (omega arith), record { re = omega (arith, s.re); im = omega (arith, s.im) })
  where
    terms : (i : ℕ) → i < 2 ^ m → Within 127 (turn_back integers (linear m c i % 4) (z i))
    terms i l = turn_within (linear m c i % 4) 127 (z i) (within i l)
