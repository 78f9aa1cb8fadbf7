-- Digits of sums, differences, products and bit operations where nothing is carried. Assumes nothing.
use Prim.Native.Nat.{ℕ, zero, suc, ◌+◌, ◌*◌, ◌-◌, ◌/◌, ◌%◌, ◌^◌, ◌≤◌, ◌<◌}
use mathlib.Core.Path.{◌≡◌, ap, ap₂, sym, ◌∙◌, subst}
use mathlib.Core.Logic.{◌⊎◌, inl, inr}
use native.Mathlib.Nat.{not-suc-le-zero, le_of_suc-le-suc, eq-or-lt_of_le, add_comm, mul_comm, mul_assoc, add-mul, one-mul, mul-le-mul_left, mul-le-mul_right, mod-lt}
use native.Mathlib.Nat.{add-mul-div_right, add-mul-mod_self_right, div-eq_of_lt, mod-eq_of_lt, lt_of_lt_of_le, mul-suc, mul-zero, mul-one, two-mul, mul-add, sub-add_cancel, eq-sub_of_add-eq}
use native.Mathlib.Omega.{arith}
use lib.Pow.{pow-add, pow_mono, pow_pos, split, high, shr_mod, shr-shr, shl-shr, mod-mod-pow, field}
use lib.Bits.{bit_and, bit_xor, and_shr, and_mod, xor_shr, xor_mod}
use Rattle.code_theory.specs.Sum.{sum}
use Rattle.code_theory.proofs.SumLaws.{sum_ext, sum_add}
use Rattle.swar_theory.specs.Internal.{digit, number}

next_power : (b n : ℕ) → 2 ^ (b * suc n) ≡ 2 ^ b * 2 ^ (b * n)
next_power b n = ap (λ x. 2 ^ x) (mul-suc b n ∙ add_comm (b * n) b) ∙ pow-add 2 b (b * n)

pub digit_lt : (b x l : ℕ) → digit b x l < 2 ^ b
unfolding digit
digit_lt b x l = mod-lt _ (pow_pos b)

-- a number of n digits has 0 in the digits from n on
pub digit_past : (b n x l : ℕ) → x < 2 ^ (b * n) → n ≤ l → digit b x l ≡ 0
unfolding digit
digit_past b n x l h k =
    ap (λ z. z % 2 ^ b) (div-eq_of_lt (lt_of_lt_of_le h (pow_mono {i = b * n} {j = b * l} (mul-le-mul_left b k)))) ∙ mod-eq_of_lt (pow_pos b)

-- a digit is not changed by a multiple of a higher place
pub digit_under : (b n l p c : ℕ) → l < n → digit b (p + c * 2 ^ (b * n)) l ≡ digit b p l
unfolding digit
digit_under b n l p c h =
    let e : n ≡ l + suc (n - suc l) = omega arith in
    let f : 2 ^ (b * n) ≡ 2 ^ b * 2 ^ (b * (n - suc l)) * 2 ^ (b * l) =
    ap (λ x. 2 ^ (b * x)) (e ∙ add_comm l (suc (n - suc l))) ∙ ap (λ x. 2 ^ x) (mul-add b (suc (n - suc l)) l)
    ∙ pow-add 2 (b * suc (n - suc l)) (b * l) ∙ ap (λ x. x * 2 ^ (b * l)) (next_power b (n - suc l)) in
    ap (λ x. (p + c * x) / 2 ^ (b * l) % 2 ^ b) f
    ∙ ap (λ x. (p + x) / 2 ^ (b * l) % 2 ^ b) (sym (mul_assoc c (2 ^ b * 2 ^ (b * (n - suc l))) (2 ^ (b * l))))
    ∙ ap (λ x. x % 2 ^ b) (add-mul-div_right p (c * (2 ^ b * 2 ^ (b * (n - suc l)))) (pow_pos (b * l)))
    ∙ ap (λ x. (p / 2 ^ (b * l) + x) % 2 ^ b) (ap (λ x. c * x) (mul_comm (2 ^ b) (2 ^ (b * (n - suc l)))) ∙ sym (mul_assoc c (2 ^ (b * (n - suc l))) (2 ^ b)))
    ∙ add-mul-mod_self_right (p / 2 ^ (b * l)) (c * 2 ^ (b * (n - suc l))) (2 ^ b)

pub digit_mod : (b n x l : ℕ) → l < n → digit b (x % 2 ^ (b * n)) l ≡ digit b x l
digit_mod b n x l h =
    sym (ap (λ y. digit b y l) (sym (split x (b * n)) ∙ add_comm (x / 2 ^ (b * n) * 2 ^ (b * n)) (x % 2 ^ (b * n))) ∙ digit_under b n l (x % 2 ^ (b * n)) (x / 2 ^ (b * n)) h)

-- the number of n digits below 2 ^ b is below 2 ^ (b * n), and its digits are those
pub number_lt : (b n : ℕ) (f : ℕ → ℕ) → ((l : ℕ) → l < n → f l < 2 ^ b) → number b n f < 2 ^ (b * n)
unfolding number sum
number_lt b zero f h = pow_pos (b * 0)
number_lt b (suc n) f h =
    let p : number b n f < 2 ^ (b * n) = number_lt b n f (λ l k. h l (omega arith)) in
    let t : suc (f n) * 2 ^ (b * n) ≤ 2 ^ b * 2 ^ (b * n) = mul-le-mul_right (2 ^ (b * n)) (h n (omega arith)) in
    omega (arith, p, t, next_power b n, add-mul 1 (f n) (2 ^ (b * n)), one-mul (2 ^ (b * n)))

pub number_digit : (b n : ℕ) (f : ℕ → ℕ) → ((l : ℕ) → l < n → f l < 2 ^ b) → (l : ℕ) → l < n → digit b (number b n f) l ≡ f l
unfolding number sum digit
number_digit b zero f h l k = absurd (not-suc-le-zero k)
number_digit b (suc n) f h l k = go (eq-or-lt_of_le (le_of_suc-le-suc k)) (number_digit b n f (λ i j. h i (omega arith)) l)
  where
    go : (l ≡ n) ⊎ (l < n) → (l < n → digit b (number b n f) l ≡ f l) → digit b (number b n f + f n * 2 ^ (b * n)) l ≡ f l
    go (inl e) ih =
        ap (digit b (number b n f + f n * 2 ^ (b * n))) e
        ∙ ap (λ x. x % 2 ^ b) (ap (λ x. x / 2 ^ (b * n)) (add_comm (number b n f) (f n * 2 ^ (b * n))) ∙ high (f n) (b * n) (number_lt b n f (λ i j. h i (omega arith))))
        ∙ mod-eq_of_lt (h n (omega arith)) ∙ ap f (sym e)
    go (inr m) ih = digit_under b n l (number b n f) (f n) m ∙ ih m

-- a number below 2 ^ (b * n) is the number of its n digits
pub number_of : (b n x : ℕ) → x < 2 ^ (b * n) → number b n (digit b x) ≡ x
unfolding number sum digit
number_of b zero x h = sym (lt_one (subst (λ y. x < 2 ^ y) (mul-zero b) h))
  where
    lt_one : {y : ℕ} → y < 1 → y ≡ 0
    lt_one k = omega arith
number_of b (suc n) x h =
    let low_part : number b n (digit b x) ≡ x % 2 ^ (b * n) =
    sum_ext n _ _ (λ l k. ap (λ y. y * 2 ^ (b * l)) (sym (digit_mod b n x l k))) ∙ number_of b n (x % 2 ^ (b * n)) (mod-lt x (pow_pos (b * n))) in
    ap₂ (λ u v. u + v) low_part (ap (λ y. y * 2 ^ (b * n)) top) ∙ add_comm (x % 2 ^ (b * n)) _ ∙ split x (b * n)
  where
    top : digit b x n ≡ x / 2 ^ (b * n)
    top = shr_mod b (b * n) (subst (λ y. x < 2 ^ y) (mul-suc b n ∙ add_comm (b * n) b) h)

-- numbers of n digits are equal where all their digits are
pub same_digits : (b n x y : ℕ) → x < 2 ^ (b * n) → y < 2 ^ (b * n) → ((l : ℕ) → l < n → digit b x l ≡ digit b y l) → x ≡ y
unfolding number
same_digits b n x y h k e = sym (number_of b n x h) ∙ sum_ext n _ _ (λ l i. ap (λ z. z * 2 ^ (b * l)) (e l i)) ∙ number_of b n y k

-- SUMS: where every sum of two digits fits a digit, the digits of x + y are these sums
module _ (b n x y : ℕ) (h : x < 2 ^ (b * n)) (k : y < 2 ^ (b * n)) (fits : (l : ℕ) → l < n → digit b x l + digit b y l < 2 ^ b) where
  sum_number : x + y ≡ number b n (λ l. digit b x l + digit b y l)
  unfolding number
  sum_number =
      sym (ap₂ (λ u v. u + v) (number_of b n x h) (number_of b n y k))
      ∙ sym (sum_add n (λ l. digit b x l * 2 ^ (b * l)) (λ l. digit b y l * 2 ^ (b * l)))
      ∙ sum_ext n _ _ (λ l i. sym (add-mul (digit b x l) (digit b y l) (2 ^ (b * l))))

  pub digit_add : (l : ℕ) → l < n → digit b (x + y) l ≡ digit b x l + digit b y l
  digit_add l i = ap (λ z. digit b z l) sum_number ∙ number_digit b n _ fits l i

  pub add_lt : x + y < 2 ^ (b * n)
  add_lt = subst (λ z. z < 2 ^ (b * n)) (sym sum_number) (number_lt b n _ fits)

-- DIFFERENCES: where no digit of y is larger than that of x, the digits of x - y are the differences
module _ (b n x y : ℕ) (h : x < 2 ^ (b * n)) (k : y < 2 ^ (b * n)) (below : (l : ℕ) → l < n → digit b y l ≤ digit b x l) where
  rest_number : number b n (λ l. digit b x l - digit b y l) + y ≡ x
  unfolding number
  rest_number =
      ap (λ z. number b n (λ l. digit b x l - digit b y l) + z) (sym (number_of b n y k))
      ∙ sym (sum_add n (λ l. (digit b x l - digit b y l) * 2 ^ (b * l)) (λ l. digit b y l * 2 ^ (b * l)))
      ∙ sum_ext n _ _ (λ l i. sym (add-mul (digit b x l - digit b y l) (digit b y l) (2 ^ (b * l))) ∙ ap (λ z. z * 2 ^ (b * l)) (sub-add_cancel (below l i)))
      ∙ number_of b n x h

  pub sub_le : y ≤ x
  sub_le = omega (arith, rest_number)

  pub digit_sub : (l : ℕ) → l < n → digit b (x - y) l ≡ digit b x l - digit b y l
  digit_sub l i =
      ap (λ z. digit b z l) (sym (eq-sub_of_add-eq _ y rest_number))
      ∙ number_digit b n _ (λ j g. omega (arith, digit_lt b x j)) l i

sum_times : (n a : ℕ) (f : ℕ → ℕ) → a * sum n f ≡ sum n (λ i. a * f i)
unfolding sum
sum_times zero a f = mul-zero a
sum_times (suc n) a f = mul-add a (sum n f) (f n) ∙ ap (λ z. z + a * f n) (sum_times n a f)

-- MULTIPLES: where a times every digit of x fits a digit, these are the digits of a * x
module _ (b n a x : ℕ) (h : x < 2 ^ (b * n)) (fits : (l : ℕ) → l < n → a * digit b x l < 2 ^ b) where
  times_number : a * x ≡ number b n (λ l. a * digit b x l)
  unfolding number
  times_number =
      ap (λ z. a * z) (sym (number_of b n x h)) ∙ sum_times n a _ ∙ sum_ext n _ _ (λ l i. sym (mul_assoc a (digit b x l) (2 ^ (b * l))))

  pub digit_times : (l : ℕ) → l < n → digit b (a * x) l ≡ a * digit b x l
  digit_times l i = ap (λ z. digit b z l) times_number ∙ number_digit b n _ fits l i

  pub times_lt : a * x < 2 ^ (b * n)
  times_lt = subst (λ z. z < 2 ^ (b * n)) (sym times_number) (number_lt b n _ fits)

-- BIT OPERATIONS and shifts by whole digits work digit by digit
pub digit_and : (b x y l : ℕ) → digit b (bit_and x y) l ≡ bit_and (digit b x l) (digit b y l)
unfolding digit
digit_and b x y l = ap (λ z. z % 2 ^ b) (and_shr x y (b * l)) ∙ and_mod (x / 2 ^ (b * l)) (y / 2 ^ (b * l)) b

pub digit_xor : (b x y l : ℕ) → digit b (bit_xor x y) l ≡ bit_xor (digit b x l) (digit b y l)
unfolding digit
digit_xor b x y l = ap (λ z. z % 2 ^ b) (xor_shr x y (b * l)) ∙ xor_mod (x / 2 ^ (b * l)) (y / 2 ^ (b * l)) b

pub digit_down : (b x s l : ℕ) → digit b (x / 2 ^ (b * s)) l ≡ digit b x (s + l)
unfolding digit
digit_down b x s l = ap (λ z. z % 2 ^ b) (shr-shr x (b * s) (b * l) ∙ ap (λ z. x / 2 ^ z) (sym (mul-add b s l)))

pub digit_up : (b x s l : ℕ) → digit b (x * 2 ^ (b * s)) (s + l) ≡ digit b x l
unfolding digit
digit_up b x s l =
    ap (λ z. x * 2 ^ (b * s) / 2 ^ z % 2 ^ b) (mul-add b s l)
    ∙ ap (λ z. z % 2 ^ b) (sym (shr-shr (x * 2 ^ (b * s)) (b * s) (b * l)) ∙ ap (λ z. z / 2 ^ (b * l)) (shl-shr x (b * s)))

twice : (b l : ℕ) → b * (2 * l) ≡ (b + b) * l
twice b l = sym (mul_assoc b 2 l) ∙ ap (λ z. z * l) (mul_comm b 2 ∙ two-mul b)

-- a digit of 2 * b bits is two digits of b bits
pub digit_even : (b x l : ℕ) → digit b x (2 * l) ≡ digit (b + b) x l % 2 ^ b
unfolding digit
digit_even b x l = ap (λ z. x / 2 ^ z % 2 ^ b) (twice b l) ∙ sym (mod-mod-pow (x / 2 ^ ((b + b) * l)) b b)

pub digit_odd : (b x l : ℕ) → digit b x (2 * l + 1) ≡ digit (b + b) x l / 2 ^ b
unfolding digit
digit_odd b x l =
    ap (λ z. x / 2 ^ z % 2 ^ b) (mul-add b (2 * l) 1 ∙ ap₂ (λ u v. u + v) (twice b l) (mul-one b))
    ∙ ap (λ z. z % 2 ^ b) (sym (shr-shr x ((b + b) * l) b)) ∙ sym (field (x / 2 ^ ((b + b) * l)) b b)
