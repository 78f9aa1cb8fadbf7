-- The lanes that are equal to a value, and how many there are. Assumes nothing.
use Prim.Native.Nat.{ℕ, zero, suc, ◌+◌, ◌*◌, ◌-◌, ◌/◌, ◌%◌, ◌^◌, ◌≤◌, ◌<◌}
use mathlib.Core.Path.{◌≡◌, refl, ap, ap₂, sym, ◌∙◌}
use mathlib.Core.Bool.{true}
use native.Mathlib.Omega.{arith}
use native.Mathlib.Nat.{add_comm, zero-mul, one-mul, mul-one, mul-le-mul_left, mul-le-mul_right}
use borrow.Author.Tests.{eqb-true, ltb-true}
use lib.Dec.{eqb, ltb}
use lib.Pow.{shr-shr, mod-mod-pow, field}
use lib.Bits.{bit_and, bit_xor, and_mask, and_zero_r, xor_lt}
use Rattle.code_theory.specs.Sum.{sum, every}
use Rattle.code_theory.specs.Modular.{same}
use Rattle.code_theory.proofs.EveryLaws.{every_at}
use Rattle.code_theory.proofs.SumLaws.{sum_ext, sum_le}
use Rattle.code_theory.proofs.ModularLaws.{same_le}
use Rattle.code_theory.specs.Question.{is_alphabet}
use Rattle.swar_theory.specs.Internal.{digit, number}
use Rattle.swar_theory.proofs.DigitLaws.{digit_lt, digit_and, digit_xor, digit_add, digit_sub, number_of}
use Rattle.swar_lanes.specs.Internal.{Lanes, LanesBelow}
use Rattle.swar_lanes.proofs.LaneLaws.{symbols_le, seven_lanes, full_lanes, one_lanes, spread_lanes}
use Rattle.swar_count.specs.Internal.{Mask, marked_equal, lanes_equal}

-- a shift by three brings the highest bit of a lane to its lowest
top_bit : (z t : ℕ) → digit 4 (z / 2 ^ 3) t % 2 ≡ digit 4 z t / 8
unfolding digit
top_bit z t =
    mod-mod-pow (z / 2 ^ 3 / 2 ^ (4 * t)) 3 1
    ∙ ap (λ x. x % 2) (shr-shr z 3 (4 * t) ∙ ap (λ x. z / 2 ^ x) (add_comm 3 (4 * t)) ∙ sym (shr-shr z (4 * t) 3))
    ∙ sym (field (z / 2 ^ (4 * t)) 1 3)

-- an `and` with c, 0 or 1, is c times the lowest bit
one_bit : (x c : ℕ) → c ≤ 1 → bit_and x c ≡ c * (x % 2)
one_bit x zero h = and_zero_r x ∙ sym (zero-mul (x % 2))
one_bit x (suc zero) h = and_mask x 1 ∙ sym (one-mul (x % 2))
one_bit x (suc (suc c)) h = absurd (omega arith)

-- the xor of two values plus 7 is below 8 only where they are equal
tested : every 8 (λ a. every 8 (λ v. eqb ((15 - (bit_xor a v + 7)) / 8) (same a v))) ≡ true
unfolding every same
tested = refl

xor_same : (a v : ℕ) → a < 8 → v < 8 → (15 - (bit_xor a v + 7)) / 8 ≡ same a v
xor_same a v h k =
    eqb-true _ _ (every_at 8 (λ v. eqb ((15 - (bit_xor a v + 7)) / 8) (same a v)) (every_at 8 (λ a. every 8 (λ v. eqb ((15 - (bit_xor a v + 7)) / 8) (same a v))) tested a h) v k)

-- THE LANES THAT ARE v: `equal` has 1 in these lanes of the mask c
module _ (d v c : ℕ) (hd : d < 18446744073709551616) (bd : LanesBelow 8 d) (hv : v < 8) (m : Mask c) where
  spread_lt : v * 0x1111_1111_1111_1111 < 18446744073709551616
  spread_lt = omega arith

  xored_lt : bit_xor d (v * 0x1111_1111_1111_1111) < 18446744073709551616
  xored_lt = xor_lt 64 d (v * 0x1111_1111_1111_1111) hd spread_lt

  xored_lane : (t : ℕ) → t < 16 → digit 4 (bit_xor d (v * 0x1111_1111_1111_1111)) t ≡ bit_xor (digit 4 d t) v
  xored_lane t h = digit_xor 4 d (v * 0x1111_1111_1111_1111) t ∙ ap (bit_xor (digit 4 d t)) (spread_lanes v (omega arith) t h)

  xored_below : LanesBelow 8 (bit_xor d (v * 0x1111_1111_1111_1111))
  xored_below t h = omega (arith, xored_lane t h, xor_lt 3 (digit 4 d t) v (bd t h) hv)

  pub xored_le : bit_xor d (v * 0x1111_1111_1111_1111) ≤ 0x7777_7777_7777_7777
  unfolding is_alphabet
  xored_le = symbols_le 8 _ refl xored_lt xored_below

  raised_lt : bit_xor d (v * 0x1111_1111_1111_1111) + 0x7777_7777_7777_7777 < 18446744073709551616
  raised_lt = omega (arith, xored_le)

  raised : (t : ℕ) → t < 16 → digit 4 (bit_xor d (v * 0x1111_1111_1111_1111)) t + digit 4 0x7777_7777_7777_7777 t < 16
  raised t h = omega (arith, xored_below t h, seven_lanes t h)

  raised_lane : (t : ℕ) → t < 16 → digit 4 (bit_xor d (v * 0x1111_1111_1111_1111) + 0x7777_7777_7777_7777) t ≡ bit_xor (digit 4 d t) v + 7
  raised_lane t h =
      digit_add 4 16 (bit_xor d (v * 0x1111_1111_1111_1111)) 0x7777_7777_7777_7777 xored_lt (omega arith) raised t h
      ∙ ap₂ (λ x y. x + y) (xored_lane t h) (seven_lanes t h)

  rest_lane : (t : ℕ) → t < 16 → digit 4 (0xffff_ffff_ffff_ffff - (bit_xor d (v * 0x1111_1111_1111_1111) + 0x7777_7777_7777_7777)) t ≡ 15 - (bit_xor (digit 4 d t) v + 7)
  rest_lane t h =
      digit_sub 4 16 0xffff_ffff_ffff_ffff (bit_xor d (v * 0x1111_1111_1111_1111) + 0x7777_7777_7777_7777) (omega arith) raised_lt
      (λ i j. omega (arith, full_lanes i j, digit_lt 4 (bit_xor d (v * 0x1111_1111_1111_1111) + 0x7777_7777_7777_7777) i)) t h
      ∙ ap₂ (λ x y. x - y) (full_lanes t h) (raised_lane t h)

  pub equal_is : Lanes (bit_and ((0xffff_ffff_ffff_ffff - (bit_xor d (v * 0x1111_1111_1111_1111) + 0x7777_7777_7777_7777)) / 2 ^ 3) c) (λ t. digit 4 c t * same (digit 4 d t) v)
  equal_is t h =
      let z : ℕ = 0xffff_ffff_ffff_ffff - (bit_xor d (v * 0x1111_1111_1111_1111) + 0x7777_7777_7777_7777) in
      digit_and 4 (z / 2 ^ 3) c t ∙ one_bit (digit 4 (z / 2 ^ 3) t) (digit 4 c t) (m t h)
      ∙ ap (λ x. digit 4 c t * x) (top_bit z t ∙ ap (λ x. x / 8) (rest_lane t h) ∙ xor_same (digit 4 d t) v (bd t h) hv)

-- THE SUM of the lanes: the value of every lane of one is 1 modulo 15
fifteen : (f : ℕ → ℕ) (p : ℕ) → number 4 16 f ≡ p → sum 16 f < 15 → p % 15 ≡ sum 16 f
unfolding number sum
fifteen f p e l = omega arith

pub total_is : (p : ℕ) → p < 18446744073709551616 → sum 16 (digit 4 p) < 15 → p % 15 ≡ sum 16 (digit 4 p)
total_is p h l = fifteen (digit 4 p) p (number_of 4 16 p h) l

-- HOW MANY marked lanes are v
pub equal_sum : (x v c r : ℕ) → Lanes r (λ t. digit 4 c t * same (digit 4 x t) v) → sum 16 (digit 4 r) ≡ marked_equal x v c
unfolding marked_equal
equal_sum x v c r l = sum_ext 16 _ _ l

-- no more than there are marks
pub marked_le : (x v c : ℕ) → marked_equal x v c ≤ sum 16 (digit 4 c)
unfolding marked_equal
marked_le x v c = sum_le 16 _ (digit 4 c) (λ t h. omega (arith, mul-le-mul_left (digit 4 c t) (same_le (digit 4 x t) v), mul-one (digit 4 c t)))

-- and no more than there are lanes that are v
pub marked_some : (x v c : ℕ) → Mask c → marked_equal x v c ≤ lanes_equal x v
unfolding marked_equal lanes_equal
marked_some x v c m = sum_le 16 _ _ (λ t h. omega (arith, mul-le-mul_right (same (digit 4 x t) v) (m t h), one-mul (same (digit 4 x t) v)))

-- a literal is a mask, by one computed test
pub mask_is : (c : ℕ) → every 16 (λ t. ltb (digit 4 c t) 2) ≡ true → Mask c
mask_is c e t h = omega (arith, ltb-true (digit 4 c t) 2 (every_at 16 (λ t. ltb (digit 4 c t) 2) e t h))

-- with 1 in every lane of the mask, every lane that is v is counted
pub every_marked : (x v : ℕ) → marked_equal x v 0x1111_1111_1111_1111 ≡ lanes_equal x v
unfolding marked_equal lanes_equal
every_marked x v = sum_ext 16 _ _ (λ t h. ap (λ c. c * same (digit 4 x t) v) (one_lanes t h) ∙ one-mul (same (digit 4 x t) v))

-- where no lane is above 1, the sum of the lanes is the number of those that are 1
pub two_sum : (x : ℕ) → LanesBelow 2 x → sum 16 (digit 4 x) ≡ lanes_equal x 1
unfolding lanes_equal same
two_sum x b = sum_ext 16 _ _ (λ t h. go (digit 4 x t) (b t h))
  where
    go : (d : ℕ) → d < 2 → d ≡ same d 1
    go zero h = refl
    go (suc zero) h = refl
    go (suc (suc d)) h = absurd (omega arith)
