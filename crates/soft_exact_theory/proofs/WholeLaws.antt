-- The operations of f32 on whole numbers: exact up to 2 ^ 24, and the comparisons always. Assumes nothing.
use mathlib.Core.Path.{◌≡◌, refl, sym, ap, ap₂, ◌∙◌, subst}
use mathlib.Core.Logic.{◌⊎◌, inl, inr}
use Prim.Native.Nat.{ℕ, zero, suc, ◌+◌, ◌-◌, ◌*◌, ◌≤◌, ◌<◌}
use native.Mathlib.Nat.{mul-one, mul_comm, mul_assoc, mul-mul-mul_comm, mul-pos, zero-lt-suc, mul-lt-mul_of_pos_right, lt_of_mul-lt-mul_right, eq_of_mul-eq-mul_right, le_of_mul-le-mul_right, mul-sub, add-mul, zero-mul, eq-or-lt_of_le}
use native.Mathlib.Omega.{arith}
use mathlib.Core.Bool.{Bool, true, false, not, ◌&&◌, ◌||◌, cond}
use lib.Dec.{T, leb, ltb, eqb, ltb→lt, nltb→le, leb→le, lt→ltb, le→leb, eqb→eq}
use lib.IntN.{ℤ, pos, negsuc, neg_ℤ, ◌+ℤ◌, ◌-ℤ◌, ◌*ℤ◌, nat_abs}
use lib.Signed.{lt_z, le_z}
use lib.Ieee.{Float, nan, inf, fin, binary32, up, down, unlike, round, sum, add, sub, mul, neg, lt, le, eq, of_int}
use lib.Ieee as ieee
use lib.Ieee.Fits.{down_pos, eq→eqb, and_i, and_l, and_r}
use lib.Ieee.Exact.{HasValue}
use lib.Ieee.Back.{round_whole}
use lib.Ieee.Scale.{round_same}
use Rattle.soft_exact_theory.specs.Whole.{signed, Whole}
use Rattle.soft_exact_theory.proofs.Integers.{above, below, add_parts, mul_parts, above_neg, below_neg, lt_parts, le_parts}

-- ---- floats that are a difference of natural numbers
-- k with the sign s is p - n
abbrev Is : Bool → ℕ → ℕ → ℕ → Type 0
Is false k p n = k + n ≡ p
Is true k p n = k + p ≡ n

-- x is the whole number p - n
abbrev Num : Float → ℕ → ℕ → Type 0
Num nan p n = ⊥
Num (inf s) p n = ⊥
Num (fin s m e) p n = (k : ℕ) × (m * up e ≡ k * down e) × Is s k p n

-- p and n differ by at most 2 ^ 24
record Near (p n : ℕ) : Type 0 where
  over : p ≤ n + 16777216
  under : n ≤ p + 16777216

of_value : (x : Float) (s : Bool) (k p n : ℕ) → HasValue x s k 1 → Is s k p n → Num x p n
of_value nan s k p n v b = v
of_value (inf t) s k p n v b = v
of_value (fin t m e) s k p n v b = (k, sym (mul-one (m * up e)) ∙ v.1, subst (λ u. Is u k p n) (sym v.0) b)

-- a fraction that is whole is rounded to itself
round_num : (s : Bool) (a c k p n : ℕ) → 0 < c → a ≡ k * c → k ≤ 16777216 → Is s k p n → Num (round binary32 s a c) p n
round_num s a c k p n C e h b =
    subst (λ x. Num x p n) (sym (round_same binary32 s a c k 1 C (zero-lt-suc 0) (mul-one a ∙ e)))
    (of_value (round binary32 s k 1) s k p n (round_whole binary32 s k h) b)

-- ---- the sum, over the common denominator c
sub_mul : (a b c : ℕ) → (a - b) * c ≡ a * c - b * c
sub_mul a b c = mul_comm (a - b) c ∙ mul-sub c a b ∙ ap₂ (λ x y. x - y) (mul_comm c a) (mul_comm c b)

sum_num : (s t : Bool) (k l c p n q r : ℕ) → 0 < c → Is s k p n → Is t l q r → Near (p + q) (n + r) → Num (sum binary32 s (k * c) t (l * c) c) (p + q) (n + r)
unfolding sum
sum_num false false k l c p n q r C b d w = round_num false (k * c + l * c) c (k + l) (p + q) (n + r) C (omega arith) (omega (arith, w.over)) (omega arith)
sum_num true true k l c p n q r C b d w = round_num true (k * c + l * c) c (k + l) (p + q) (n + r) C (omega arith) (omega (arith, w.under)) (omega arith)
sum_num false true k l c p n q r C b d w = go (ltb (k * c) (l * c)) (ltb→lt (k * c) (l * c)) (nltb→le (k * c) (l * c))
  where
    go : (u : Bool) → (T u → k * c < l * c) → (T (not u) → l * c ≤ k * c) → Num (cond u (round binary32 true (l * c - k * c) c) (round binary32 false (k * c - l * c) c)) (p + q) (n + r)
    go true x y =
        let h : k < l = lt_of_mul-lt-mul_right c (x tt) in
        round_num true (l * c - k * c) c (l - k) (p + q) (n + r) C (sym (sub_mul l k c)) (omega (arith, w.under)) (omega arith)
    go false x y =
        let h : l ≤ k = le_of_mul-le-mul_right (y tt) C in
        round_num false (k * c - l * c) c (k - l) (p + q) (n + r) C (sym (sub_mul k l c)) (omega (arith, w.over)) (omega arith)
sum_num true false k l c p n q r C b d w = go (ltb (k * c) (l * c)) (ltb→lt (k * c) (l * c)) (nltb→le (k * c) (l * c)) (ltb (l * c) (k * c)) (ltb→lt (l * c) (k * c)) (nltb→le (l * c) (k * c))
  where
    go : (u : Bool) → (T u → k * c < l * c) → (T (not u) → l * c ≤ k * c) → (v : Bool) → (T v → l * c < k * c) → (T (not v) → k * c ≤ l * c)
        → Num (cond u (round binary32 false (l * c - k * c) c) (round binary32 v (k * c - l * c) c)) (p + q) (n + r)
    go true x y v x' y' =
        let h : k < l = lt_of_mul-lt-mul_right c (x tt) in
        round_num false (l * c - k * c) c (l - k) (p + q) (n + r) C (sym (sub_mul l k c)) (omega (arith, w.over)) (omega arith)
    go false x y true x' y' =
        let h : l < k = lt_of_mul-lt-mul_right c (x' tt) in
        round_num true (k * c - l * c) c (k - l) (p + q) (n + r) C (sym (sub_mul k l c)) (omega (arith, w.under)) (omega arith)
    go false x y false x' y' =
        let h : l ≤ k = le_of_mul-le-mul_right (y tt) C in
        let h' : k ≤ l = le_of_mul-le-mul_right (y' tt) C in
        round_num false (k * c - l * c) c (k - l) (p + q) (n + r) C (sym (sub_mul k l c)) (omega arith) (omega arith)

-- a magnitude over the common denominator, on either side of it
over_left : (m k u c d : ℕ) → m * u ≡ k * c → m * u * d ≡ k * (c * d)
over_left m k u c d e = ap (λ x. x * d) e ∙ mul_assoc k c d

over_right : (m k u c d : ℕ) → m * u ≡ k * c → m * u * d ≡ k * (d * c)
over_right m k u c d e = over_left m k u c d e ∙ ap (λ x. k * x) (mul_comm c d)

add_num : (x y : Float) (p n q r : ℕ) → Num x p n → Num y q r → Near (p + q) (n + r) → Num (add binary32 x y) (p + q) (n + r)
unfolding add
add_num nan y p n q r a b w = absurd a
add_num (inf s) y p n q r a b w = absurd a
add_num (fin s m e) nan p n q r a b w = absurd b
add_num (fin s m e) (inf t) p n q r a b w = absurd b
add_num (fin s m e) (fin t i d) p n q r a b w =
    rw (over_left m a.0 (up e) (down e) (down d) a.1, over_right i b.0 (up d) (down d) (down e) b.1)
    (sum_num s t a.0 b.0 (down e * down d) p n q r (mul-pos (down_pos e) (down_pos d)) a.2 b.2 w)

neg_num : (x : Float) (p n : ℕ) → Num x p n → Num (neg x) n p
unfolding neg
neg_num nan p n a = a
neg_num (inf s) p n a = a
neg_num (fin true m e) p n a = a
neg_num (fin false m e) p n a = a

-- ---- the product
mul_is : (s t : Bool) (k l p n q r : ℕ) → Is s k p n → Is t l q r → Is (unlike s t) (k * l) (p * q + n * r) (p * r + n * q)
mul_is false false k l p n q r a b = rw (← a, ← b) (omega arith)
mul_is false true k l p n q r a b = rw (← a, ← b) (omega arith)
mul_is true false k l p n q r a b = rw (← a, ← b) (omega arith)
mul_is true true k l p n q r a b = rw (← a, ← b) (omega arith)

near_small : (s : Bool) (k p n : ℕ) → Is s k p n → Near p n → k ≤ 16777216
near_small false k p n b w = omega (arith, w.over)
near_small true k p n b w = omega (arith, w.under)

mul_num : (x y : Float) (p n q r : ℕ) → Num x p n → Num y q r → Near (p * q + n * r) (p * r + n * q) → Num (mul binary32 x y) (p * q + n * r) (p * r + n * q)
unfolding mul
mul_num nan y p n q r a b w = absurd a
mul_num (inf s) y p n q r a b w = absurd a
mul_num (fin s m e) nan p n q r a b w = absurd b
mul_num (fin s m e) (inf t) p n q r a b w = absurd b
mul_num (fin s m e) (fin t i d) p n q r a b w =
    let B = mul_is s t a.0 b.0 p n q r a.2 b.2 in
    round_num (unlike s t) (m * up e * (i * up d)) (down e * down d) (a.0 * b.0) (p * q + n * r) (p * r + n * q) (mul-pos (down_pos e) (down_pos d))
    (ap₂ (λ x y. x * y) a.1 b.1 ∙ mul-mul-mul_comm a.0 (down e) b.0 (down d))
    (near_small (unlike s t) (a.0 * b.0) (p * q + n * r) (p * r + n * q) B w)
    B

-- ---- the order
bool_ext : (a b : Bool) → (T a → T b) → (T b → T a) → a ≡ b
bool_ext true true f g = refl
bool_ext true false f g = absurd (f tt)
bool_ext false true f g = absurd (g tt)
bool_ext false false f g = refl

-- a test of two magnitudes over c is that of a and b, where both say the same
lt_over : (k l c a b : ℕ) → 0 < c → (k < l → a < b) → (a < b → k < l) → ltb (k * c) (l * c) ≡ ltb a b
lt_over k l c a b C f g = bool_ext (ltb (k * c) (l * c)) (ltb a b)
    (λ t. lt→ltb a b (f (lt_of_mul-lt-mul_right c (ltb→lt (k * c) (l * c) t))))
    (λ t. lt→ltb (k * c) (l * c) (mul-lt-mul_of_pos_right (g (ltb→lt a b t)) C))

below_num : (s t : Bool) (k l c p n q r : ℕ) → 0 < c → Is s k p n → Is t l q r → ieee.below s (k * c) t (l * c) ≡ ltb (p + r) (q + n)
below_num false false k l c p n q r C a b = lt_over k l c (p + r) (q + n) C (λ h. omega arith) (λ h. omega arith)
below_num false true k l c p n q r C a b = bool_ext false (ltb (p + r) (q + n)) (λ t. absurd t) (λ t. omega (arith, ltb→lt (p + r) (q + n) t))
below_num true false k l c p n q r C a b =
    ap₂ ltb (sym (zero-mul c)) (sym (add-mul k l c)) ∙ lt_over 0 (k + l) c (p + r) (q + n) C (λ h. omega arith) (λ h. omega arith)
below_num true true k l c p n q r C a b = lt_over l k c (p + r) (q + n) C (λ h. omega arith) (λ h. omega arith)

eq_over : (k l c : ℕ) → 0 < c → eqb (k * c) (l * c) ≡ eqb k l
eq_over k l c C = bool_ext (eqb (k * c) (l * c)) (eqb k l)
    (λ t. eq→eqb (eq_of_mul-eq-mul_right c C k l (eqb→eq (k * c) (l * c) t)))
    (λ t. eq→eqb (ap (λ x. x * c) (eqb→eq k l t)))

zero_over : (k c : ℕ) → 0 < c → eqb (k * c) 0 ≡ eqb k 0
zero_over k c C = ap (eqb (k * c)) (sym (zero-mul c)) ∙ eq_over k 0 c C

same_sign : (k l a b : ℕ) → (k ≡ l → a ≡ b) → (a ≡ b → k ≡ l) → (eqb k l && true) ≡ eqb a b
same_sign k l a b f g = bool_ext (eqb k l && true) (eqb a b) (λ t. eq→eqb (f (eqb→eq k l (and_l (eqb k l) true t)))) (λ t. and_i (eqb k l) true (eq→eqb (g (eqb→eq a b t))) tt)

other_sign : (k l a b : ℕ) → (k ≡ l → k ≡ 0 → a ≡ b) → (a ≡ b → (k ≡ l) × (k ≡ 0)) → (eqb k l && eqb k 0) ≡ eqb a b
other_sign k l a b f g = bool_ext (eqb k l && eqb k 0) (eqb a b)
    (λ t. eq→eqb (f (eqb→eq k l (and_l (eqb k l) (eqb k 0) t)) (eqb→eq k 0 (and_r (eqb k l) (eqb k 0) t))))
    (λ t. and_i (eqb k l) (eqb k 0) (eq→eqb (g (eqb→eq a b t)).0) (eq→eqb (g (eqb→eq a b t)).1))

level_num : (s t : Bool) (k l c p n q r : ℕ) → 0 < c → Is s k p n → Is t l q r → ieee.level s (k * c) t (l * c) ≡ eqb (p + r) (q + n)
level_num false false k l c p n q r C a b = rw (eq_over k l c C) (same_sign k l (p + r) (q + n) (λ e. omega arith) (λ e. omega arith))
level_num true true k l c p n q r C a b = rw (eq_over k l c C) (same_sign k l (p + r) (q + n) (λ e. omega arith) (λ e. omega arith))
level_num false true k l c p n q r C a b = rw (eq_over k l c C, zero_over k c C) (other_sign k l (p + r) (q + n) (λ e z. omega arith) (λ e. (omega arith, omega arith)))
level_num true false k l c p n q r C a b = rw (eq_over k l c C, zero_over k c C) (other_sign k l (p + r) (q + n) (λ e z. omega arith) (λ e. (omega arith, omega arith)))

lt_num : (x y : Float) (p n q r : ℕ) → Num x p n → Num y q r → lt x y ≡ ltb (p + r) (q + n)
unfolding lt
lt_num nan y p n q r a b = absurd a
lt_num (inf s) y p n q r a b = absurd a
lt_num (fin s m e) nan p n q r a b = absurd b
lt_num (fin s m e) (inf t) p n q r a b = absurd b
lt_num (fin s m e) (fin t i d) p n q r a b =
    rw (over_left m a.0 (up e) (down e) (down d) a.1, over_right i b.0 (up d) (down d) (down e) b.1)
    (below_num s t a.0 b.0 (down e * down d) p n q r (mul-pos (down_pos e) (down_pos d)) a.2 b.2)

eq_num : (x y : Float) (p n q r : ℕ) → Num x p n → Num y q r → eq x y ≡ eqb (p + r) (q + n)
unfolding eq
eq_num nan y p n q r a b = absurd a
eq_num (inf s) y p n q r a b = absurd a
eq_num (fin s m e) nan p n q r a b = absurd b
eq_num (fin s m e) (inf t) p n q r a b = absurd b
eq_num (fin s m e) (fin t i d) p n q r a b =
    rw (over_left m a.0 (up e) (down e) (down d) a.1, over_right i b.0 (up d) (down d) (down e) b.1)
    (level_num s t a.0 b.0 (down e * down d) p n q r (mul-pos (down_pos e) (down_pos d)) a.2 b.2)

lt_or_eq : (a b : ℕ) → (ltb a b || eqb a b) ≡ leb a b
lt_or_eq a b = bool_ext (ltb a b || eqb a b) (leb a b) (λ t. le→leb a b (split (ltb a b) (eqb a b) (ltb→lt a b) (eqb→eq a b) t)) (λ t. join (eq-or-lt_of_le (leb→le a b t)))
  where
    split : (u v : Bool) → (T u → a < b) → (T v → a ≡ b) → T (u || v) → a ≤ b
    split true v f g t = omega (arith, f tt)
    split false v f g t = omega (arith, g t)

    right : (u v : Bool) → T v → T (u || v)
    right true v t = tt
    right false v t = t

    left : (u v : Bool) → T u → T (u || v)
    left true v t = tt
    left false v t = absurd t

    join : (a ≡ b) ⊎ (a < b) → T (ltb a b || eqb a b)
    join (inl e) = right (ltb a b) (eqb a b) (eq→eqb e)
    join (inr l) = left (ltb a b) (eqb a b) (lt→ltb a b l)

le_num : (x y : Float) (p n q r : ℕ) → Num x p n → Num y q r → le x y ≡ leb (p + r) (q + n)
unfolding le
le_num x y p n q r a b = rw (lt_num x y p n q r a b, eq_num x y p n q r a b) (lt_or_eq (p + r) (q + n))

-- ---- the same of whole numbers
-- as a difference, written in one way or another
re_is : (s : Bool) (k p n q r : ℕ) → p + r ≡ q + n → Is s k p n → Is s k q r
re_is false k p n q r e a = omega arith
re_is true k p n q r e a = omega arith

re_num : (x : Float) (p n q r : ℕ) → p + r ≡ q + n → Num x p n → Num x q r
re_num nan p n q r e a = a
re_num (inf s) p n q r e a = a
re_num (fin s m d) p n q r e a = (a.0, a.1, re_is s a.0 p n q r e a.2)

to_num : (x : Float) (z : ℤ) → Whole x z → Num x (above z) (below z)
unfolding signed
to_num x z w = rw w.number (of_value x w.minus w.size _ _ w.value (is w.minus w.size))
  where
    is : (s : Bool) (k : ℕ) → Is s k (above (signed s k)) (below (signed s k))
    is false k = omega arith
    is true k = omega (arith, above_neg (pos k), below_neg (pos k))

of_num : (x : Float) (z : ℤ) → Num x (above z) (below z) → Whole x z
unfolding signed
of_num nan z a = absurd a
of_num (inf s) z a = absurd a
of_num (fin s m e) z a = record { minus = s; size = a.0; value = (refl, mul-one (m * up e) ∙ a.1); number = is s a.0 z a.2 }
  where
    is : (s : Bool) (k : ℕ) (z : ℤ) → Is s k (above z) (below z) → z ≡ signed s k
    is false k (pos n) e = ap pos (omega arith)
    is false k (negsuc n) e = absurd (omega arith)
    is true zero (pos n) e = ap pos (omega arith)
    is true (suc k) (pos n) e = absurd (omega arith)
    is true zero (negsuc n) e = absurd (omega arith)
    is true (suc k) (negsuc n) e = ap negsuc (omega arith)

near : (z : ℤ) (p n : ℕ) → p + below z ≡ above z + n → nat_abs z ≤ 16777216 → Near p n
near (pos k) p n e h = record { over = omega arith; under = omega arith }
near (negsuc k) p n e h = record { over = omega arith; under = omega arith }

module _ (x y : Float) (a b : ℤ) (X : Whole x a) (Y : Whole y b) where
  pub whole_add : nat_abs (a +ℤ b) ≤ 16777216 → Whole (add binary32 x y) (a +ℤ b)
  whole_add h = of_num (add binary32 x y) (a +ℤ b) (re_num (add binary32 x y) (above a + above b) (below a + below b) _ _ (add_parts a b)
      (add_num x y (above a) (below a) (above b) (below b) (to_num x a X) (to_num y b Y) (near (a +ℤ b) _ _ (add_parts a b) h)))

  pub whole_mul : nat_abs (a *ℤ b) ≤ 16777216 → Whole (mul binary32 x y) (a *ℤ b)
  whole_mul h = of_num (mul binary32 x y) (a *ℤ b) (re_num (mul binary32 x y) (above a * above b + below a * below b) (above a * below b + below a * above b) _ _ (mul_parts a b)
      (mul_num x y (above a) (below a) (above b) (below b) (to_num x a X) (to_num y b Y) (near (a *ℤ b) _ _ (mul_parts a b) h)))

  pub whole_lt : lt x y ≡ lt_z a b
  whole_lt = lt_num x y (above a) (below a) (above b) (below b) (to_num x a X) (to_num y b Y) ∙ lt_parts a b

  pub whole_le : le x y ≡ le_z a b
  whole_le = le_num x y (above a) (below a) (above b) (below b) (to_num x a X) (to_num y b Y) ∙ le_parts a b

pub whole_neg : (x : Float) (a : ℤ) → Whole x a → Whole (neg x) (neg_ℤ a)
whole_neg x a X = of_num (neg x) (neg_ℤ a) (rw (above_neg a, below_neg a) (neg_num x (above a) (below a) (to_num x a X)))

pub whole_sub : (x y : Float) (a b : ℤ) → Whole x a → Whole y b → nat_abs (a -ℤ b) ≤ 16777216 → Whole (sub binary32 x y) (a -ℤ b)
unfolding sub
whole_sub x y a b X Y h = whole_add x (neg y) a (neg_ℤ b) X (whole_neg y b Y) h

pub whole_number : (n : ℕ) → n ≤ 16777216 → Whole (of_int binary32 (pos n)) (pos n)
unfolding of_int signed
whole_number n h = record { minus = false; size = n; value = round_whole binary32 false n h; number = refl }
