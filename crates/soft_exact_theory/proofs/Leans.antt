-- Whole sums that lean to a symbol: so does what is added up of such, and the decision is sure of it. Assumes nothing.
use mathlib.Core.Path.{◌≡◌, refl}
use Prim.Native.Nat.{ℕ, zero, suc, ◌+◌, ◌*◌, ◌≤◌, ◌<◌}
use native.Mathlib.Nat.{not-suc-le-zero}
use native.Mathlib.Omega.{arith}
use mathlib.Core.Bool.{Bool, true, false, ◌&&◌, cond}
use borrow.Author.Tests.{ltb-true, leb-true, lt-ltb, le-ltb, le-leb}
use lib.Dec.{ltb, leb}
use lib.IntN.{ℤ, pos, negsuc, ◌+ℤ◌, nat_abs, +ℤ_idl}
use lib.Signed.{lt_z}
use Rattle.code_theory.proofs.QuestionLaws.{and_true}
use Rattle.soft_theory.specs.Numbers.{integers}
use Rattle.soft_theory.specs.Complex.{Complex, plus, step_if_clear, upward, sums}
use Rattle.soft_theory.specs.Decision.{sure, magnitude, is_decisive, decide_by, decide}
use Rattle.soft_exact_theory.proofs.Integers.{above, below, abs_add}

-- how far z goes in the direction of the symbol d, 0 where it goes back, and how far it is off to either side
abbrev pub ahead : ℕ → Complex ℤ → ℕ
ahead zero z = above z.re
ahead (suc zero) z = above z.im
ahead (suc (suc zero)) z = below z.re
ahead (suc (suc (suc d))) z = below z.im

abbrev pub aside : ℕ → Complex ℤ → ℕ
aside zero z = nat_abs z.im
aside (suc zero) z = nat_abs z.re
aside (suc (suc zero)) z = nat_abs z.im
aside (suc (suc (suc d))) z = nat_abs z.re

-- z leans to d: it goes that way, and is off by at most two thirds of it
pub record Leans (d : ℕ) (z : Complex ℤ) : Type 0 where
  pub some : 0 < ahead d z
  pub narrow : 3 * aside d z ≤ 2 * ahead d z

-- the same as a test
abbrev pub leans_to : ℕ → Complex ℤ → Bool
leans_to d z = ltb 0 (ahead d z) && leb (3 * aside d z) (2 * ahead d z)

pub leans_tested : (d : ℕ) (z : Complex ℤ) → leans_to d z ≡ true → Leans d z
leans_tested d z e =
    let (a, b) = and_true (ltb 0 (ahead d z)) (leb (3 * aside d z) (2 * ahead d z)) e in
    record { some = ltb-true 0 (ahead d z) a; narrow = leb-true (3 * aside d z) (2 * ahead d z) b }

-- ---- sums
above_add : (a b : ℤ) → 0 < above a → 0 < above b → above (a +ℤ b) ≡ above a + above b
above_add (pos a) (pos b) h k = refl
above_add (pos a) (negsuc b) h k = absurd (not-suc-le-zero k)
above_add (negsuc a) b h k = absurd (not-suc-le-zero h)

below_add : (a b : ℤ) → 0 < below a → 0 < below b → below (a +ℤ b) ≡ below a + below b
below_add (pos a) b h k = absurd (not-suc-le-zero h)
below_add (negsuc a) (pos b) h k = absurd (not-suc-le-zero k)
below_add (negsuc a) (negsuc b) h k = omega arith

leans_add : (d : ℕ) (z w : Complex ℤ) → Leans d z → Leans d w → Leans d (plus integers z w)
unfolding plus
leans_add zero z w f g =
    let e = above_add z.re w.re f.some g.some in
    record { some = omega (arith, e, f.some); narrow = omega (arith, e, abs_add z.im w.im, f.narrow, g.narrow) }
leans_add (suc zero) z w f g =
    let e = above_add z.im w.im f.some g.some in
    record { some = omega (arith, e, f.some); narrow = omega (arith, e, abs_add z.re w.re, f.narrow, g.narrow) }
leans_add (suc (suc zero)) z w f g =
    let e = below_add z.re w.re f.some g.some in
    record { some = omega (arith, e, f.some); narrow = omega (arith, e, abs_add z.im w.im, f.narrow, g.narrow) }
leans_add (suc (suc (suc d))) z w f g =
    let e = below_add z.im w.im f.some g.some in
    record { some = omega (arith, e, f.some); narrow = omega (arith, e, abs_add z.re w.re, f.narrow, g.narrow) }

-- a sum of terms that lean to d, the first of which is not left out
pub leans_sums : (d n : ℕ) (closed : ℕ → ℕ) (z : ℕ → Complex ℤ) → closed 0 ≡ 0 → ((i : ℕ) → i < suc n → closed i ≡ 0 → Leans d (z i))
    → Leans d (sums integers (suc n) closed z)
unfolding sums upward step_if_clear plus
leans_sums d zero closed z e h = rw (e, +ℤ_idl, +ℤ_idl) (h 0 (omega arith) e)
leans_sums d (suc n) closed z e h = go (closed (suc n)) refl (leans_sums d n closed z e (λ i l. h i (omega arith)))
  where
    go : (b : ℕ) → closed (suc n) ≡ b → Leans d (sums integers (suc n) closed z) → Leans d (step_if_clear b (λ s. plus integers s (z (suc n))) (sums integers (suc n) closed z))
    go zero f s = leans_add d _ (z (suc n)) s (h (suc n) (omega arith) f)
    go (suc b) f s = s

-- ---- the decision
-- a magnitude in whole numbers
magnitude_is : (a : ℤ) → magnitude integers a ≡ pos (nat_abs a)
unfolding magnitude
magnitude_is (pos n) = rw (le-ltb n 0 (omega arith))
magnitude_is (negsuc n) = refl

-- by the sum l of the larger magnitude, where it is decisive
by_sure : (l s : ℤ) (a b : ℕ) (z : Complex ℤ) (u : Bool) → 0 < nat_abs l → 3 * nat_abs s ≤ 2 * nat_abs l → lt_z (pos 0) l ≡ u → decide_by integers l s a b z ≡ sure (cond u a b) z
unfolding decide_by is_decisive
by_sure l s a b z u h k e = rw (magnitude_is l, magnitude_is s, lt-ltb 0 (nat_abs l) h, le-leb (3 * nat_abs s) (2 * nat_abs l) k, e)

by_re : (z : Complex ℤ) (u : Bool) → 0 < nat_abs z.re → 3 * nat_abs z.im ≤ 2 * nat_abs z.re → lt_z (pos 0) z.re ≡ u → decide integers z ≡ sure (cond u 0 2) z
unfolding decide
by_re z u h k e = rw (magnitude_is z.re, magnitude_is z.im, le-ltb (nat_abs z.re) (nat_abs z.im) (omega arith)) (by_sure z.re z.im 0 2 z u h k e)

by_im : (z : Complex ℤ) (u : Bool) → 0 < nat_abs z.im → 3 * nat_abs z.re ≤ 2 * nat_abs z.im → lt_z (pos 0) z.im ≡ u → decide integers z ≡ sure (cond u 1 3) z
unfolding decide
by_im z u h k e = rw (magnitude_is z.re, magnitude_is z.im, lt-ltb (nat_abs z.re) (nat_abs z.im) (omega arith)) (by_sure z.im z.re 1 3 z u h k e)

-- a number above 0, and one below it
is_above : (a : ℤ) → 0 < above a → (nat_abs a ≡ above a) × (lt_z (pos 0) a ≡ true)
is_above (pos n) h = (refl, lt-ltb 0 n h)
is_above (negsuc n) h = absurd (not-suc-le-zero h)

is_below : (a : ℤ) → 0 < below a → (nat_abs a ≡ below a) × (lt_z (pos 0) a ≡ false)
is_below (pos n) h = absurd (not-suc-le-zero h)
is_below (negsuc n) h = (refl, refl)

-- what leans to a symbol is sure of it
pub leans_sure : (d : ℕ) (z : Complex ℤ) → d < 4 → Leans d z → decide integers z ≡ sure d z
leans_sure zero z l f = let (a, s) = is_above z.re f.some in by_re z true (omega (arith, a, f.some)) (omega (arith, a, f.narrow)) s
leans_sure (suc zero) z l f = let (a, s) = is_above z.im f.some in by_im z true (omega (arith, a, f.some)) (omega (arith, a, f.narrow)) s
leans_sure (suc (suc zero)) z l f = let (a, s) = is_below z.re f.some in by_re z false (omega (arith, a, f.some)) (omega (arith, a, f.narrow)) s
leans_sure (suc (suc (suc zero))) z l f = let (a, s) = is_below z.im f.some in by_im z false (omega (arith, a, f.some)) (omega (arith, a, f.narrow)) s
leans_sure (suc (suc (suc (suc d)))) z l f = absurd (omega arith)
