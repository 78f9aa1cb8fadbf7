-- Whole numbers as differences of natural numbers, which omega reads, and their magnitudes. Assumes nothing.
use mathlib.Core.Path.{◌≡◌, refl, ap₂}
use Prim.Native.Nat.{ℕ, zero, suc, ◌+◌, ◌-◌, ◌*◌, ◌≤◌}
use native.Mathlib.Nat.{add-zero}
use native.Mathlib.Omega.{arith}
use mathlib.Core.Bool.{Bool, true, false, cond}
use borrow.Author.Tests.{ltb-true, ltb-false, leb-true, leb-false, lt-ltb, le-ltb, le-leb, lt-leb}
use lib.Dec.{ltb, leb}
use lib.IntN.{ℤ, pos, negsuc, neg_ℤ, ◌+ℤ◌, ◌-ℤ◌, ◌*ℤ◌, sub_ℕ, nat_abs}
use lib.Signed.{lt_z, le_z}

-- z is above z - below z, and one of them is 0
abbrev pub above : ℤ → ℕ
above (pos n) = n
above (negsuc n) = 0

abbrev pub below : ℤ → ℕ
below (pos n) = 0
below (negsuc n) = suc n

pub abs_parts : (z : ℤ) → nat_abs z ≡ above z + below z
abs_parts (pos n) = omega arith
abs_parts (negsuc n) = omega arith

sub_parts : (a b : ℕ) → above (sub_ℕ a b) + b ≡ a + below (sub_ℕ a b)
sub_parts a b = go (ltb a b) refl
  where
    go : (t : Bool) → ltb a b ≡ t → above (cond t (negsuc (b - suc a)) (pos (a - b))) + b ≡ a + below (cond t (negsuc (b - suc a)) (pos (a - b)))
    go true e = omega (arith, ltb-true a b e)
    go false e = omega (arith, ltb-false a b e)

pub add_parts : (a b : ℤ) → above a + above b + below (a +ℤ b) ≡ above (a +ℤ b) + (below a + below b)
add_parts (pos a) (pos b) = omega arith
add_parts (pos a) (negsuc b) = omega (arith, sub_parts a (suc b))
add_parts (negsuc a) (pos b) = omega (arith, sub_parts b (suc a))
add_parts (negsuc a) (negsuc b) = omega arith

pub above_neg : (a : ℤ) → above (neg_ℤ a) ≡ below a
above_neg (pos zero) = refl
above_neg (pos (suc n)) = refl
above_neg (negsuc n) = refl

pub below_neg : (a : ℤ) → below (neg_ℤ a) ≡ above a
below_neg (pos zero) = refl
below_neg (pos (suc n)) = refl
below_neg (negsuc n) = refl

pub mul_parts : (a b : ℤ) → above a * above b + below a * below b + below (a *ℤ b) ≡ above (a *ℤ b) + (above a * below b + below a * above b)
mul_parts (pos a) (pos b) = omega arith
mul_parts (pos a) (negsuc b) = rw (below_neg (pos (a * suc b)), above_neg (pos (a * suc b))) (omega arith)
mul_parts (negsuc a) (pos b) = rw (below_neg (pos (suc a * b)), above_neg (pos (suc a * b))) (omega arith)
mul_parts (negsuc a) (negsuc b) = omega arith

-- ---- magnitudes
pub abs_neg : (a : ℤ) → nat_abs (neg_ℤ a) ≡ nat_abs a
abs_neg (pos zero) = refl
abs_neg (pos (suc n)) = refl
abs_neg (negsuc n) = refl

-- the magnitude of a difference of natural numbers
parts_abs : (z : ℤ) (p n : ℕ) → p + below z ≡ above z + n → nat_abs z ≤ p + n
parts_abs (pos k) p n e = omega arith
parts_abs (negsuc k) p n e = omega arith

pub abs_add : (a b : ℤ) → nat_abs (a +ℤ b) ≤ nat_abs a + nat_abs b
abs_add a b = omega (arith, parts_abs (a +ℤ b) (above a + above b) (below a + below b) (add_parts a b), abs_parts a, abs_parts b)

pub abs_sub : (a b : ℤ) → nat_abs (a -ℤ b) ≤ nat_abs a + nat_abs b
abs_sub a b = omega (arith, abs_add a (neg_ℤ b), abs_neg b)

pub abs_mul : (a b : ℤ) → nat_abs (a *ℤ b) ≡ nat_abs a * nat_abs b
abs_mul (pos a) (pos b) = refl
abs_mul (pos a) (negsuc b) = abs_neg (pos (a * suc b))
abs_mul (negsuc a) (pos b) = abs_neg (pos (suc a * b))
abs_mul (negsuc a) (negsuc b) = refl

-- ---- the order
pub lt_parts : (a b : ℤ) → ltb (above a + below b) (above b + below a) ≡ lt_z a b
lt_parts (pos a) (pos b) = ap₂ ltb (add-zero a) (add-zero b)
lt_parts (pos a) (negsuc b) = le-ltb (a + suc b) (0 + 0) (omega arith)
lt_parts (negsuc a) (pos b) = lt-ltb (0 + 0) (b + suc a) (omega arith)
lt_parts (negsuc a) (negsuc b) = go (ltb b a) refl
  where
    go : (t : Bool) → ltb b a ≡ t → ltb (0 + suc b) (0 + suc a) ≡ t
    go true e = lt-ltb (0 + suc b) (0 + suc a) (omega (arith, ltb-true b a e))
    go false e = le-ltb (0 + suc b) (0 + suc a) (omega (arith, ltb-false b a e))

pub le_parts : (a b : ℤ) → leb (above a + below b) (above b + below a) ≡ le_z a b
le_parts (pos a) (pos b) = ap₂ leb (add-zero a) (add-zero b)
le_parts (pos a) (negsuc b) = lt-leb (a + suc b) (0 + 0) (omega arith)
le_parts (negsuc a) (pos b) = le-leb (0 + 0) (b + suc a) (omega arith)
le_parts (negsuc a) (negsuc b) = go (leb b a) refl
  where
    go : (t : Bool) → leb b a ≡ t → leb (0 + suc b) (0 + suc a) ≡ t
    go true e = le-leb (0 + suc b) (0 + suc a) (omega (arith, leb-true b a e))
    go false e = lt-leb (0 + suc b) (0 + suc a) (omega (arith, leb-false b a e))
