-- The bits of `and`, `or`, `xor`, of shifts and of lanes, the full adder, and the count of seven lanes. Assumes nothing.
use Prim.Native.Nat.{ℕ, zero, suc, ◌+◌, ◌*◌, ◌/◌, ◌%◌, ◌^◌, ◌<◌, min, max}
use mathlib.Core.Path.{◌≡◌, ap, ap₂, sym, ◌∙◌}
use native.Mathlib.Omega.{arith}
use native.Mathlib.Nat.{not-suc-le-zero, le_of_suc-le-suc}
use lib.Pow.{shr-shr}
use lib.Bits.{bit_and, bit_or, bit_xor, and_shr, or_shr, xor_shr, and_step, or_step, xor_add_and}
use Rattle.code_theory.specs.Index.{bit}
use Rattle.code_theory.proofs.IndexLaws.{bit_lt}
use Rattle.swar_theory.specs.Internal.{digit}
use Rattle.swar_majority.specs.Internal.{Parity, Carry, Down, seven_bits, Counted}

-- the lowest bit of `and`, `or` and `xor`
and_low : (a b : ℕ) → bit_and a b % 2 ≡ min (a % 2) (b % 2)
and_low a b = omega (arith, and_step a b)

or_low : (a b : ℕ) → bit_or a b % 2 ≡ max (a % 2) (b % 2)
or_low a b = omega (arith, or_step a b)

xor_low : (a b : ℕ) → bit_xor a b % 2 ≡ (a % 2 + b % 2) % 2
xor_low a b = omega (arith, xor_add_and a b)

-- bit i of `and`, `or` and `xor`
bit_and_lem : (i a b : ℕ) → bit i (bit_and a b) ≡ min (bit i a) (bit i b)
unfolding bit
bit_and_lem i a b = ap (λ x. x % 2) (and_shr a b i) ∙ and_low (a / 2 ^ i) (b / 2 ^ i)

bit_or_lem : (i a b : ℕ) → bit i (bit_or a b) ≡ max (bit i a) (bit i b)
unfolding bit
bit_or_lem i a b = ap (λ x. x % 2) (or_shr a b i) ∙ or_low (a / 2 ^ i) (b / 2 ^ i)

bit_xor_lem : (i a b : ℕ) → bit i (bit_xor a b) ≡ (bit i a + bit i b) % 2
unfolding bit
bit_xor_lem i a b = ap (λ x. x % 2) (xor_shr a b i) ∙ xor_low (a / 2 ^ i) (b / 2 ^ i)

-- THE FULL ADDER: `parity` and `carry` compute the two bits of a sum of three bits
pub parity_is : (a b c : ℕ) → Parity a b c (bit_xor (bit_xor a b) c)
parity_is a b c = record { low = λ i. omega (arith, bit_xor_lem i (bit_xor a b) c, bit_xor_lem i a b, bit_lt i a, bit_lt i b, bit_lt i c) }

pub carry_is : (a b c : ℕ) → Carry a b c (bit_or (bit_and a b) (bit_and c (bit_xor a b)))
carry_is a b c = record {
  high = λ i. omega (arith, bit_or_lem i (bit_and a b) (bit_and c (bit_xor a b)), bit_and_lem i a b, bit_and_lem i c (bit_xor a b), bit_xor_lem i a b, bit_lt i a, bit_lt i b, bit_lt i c);
}

-- a shift by 4 * a bits moves lane a to lane 0
pub down_is : (d a : ℕ) → Down d a (d / 2 ^ (4 * a))
unfolding bit
down_is d a = record { moved = λ i. ap (λ x. x % 2) (shr-shr d (4 * a) i) }

-- THE COUNT of seven lanes: s and t are the sum of the lanes 0, a and b, and c lanes further on that of the lanes c, c + a and c + b. Their
-- low bits and lane a + b make ones and the carry p; their high bits and p make twos and fours.
pub counted : {d a b c s t p ones twos fours da db da' db' e sc sc' tc tc' : ℕ}
    → Down d a da → Down d b db → Parity d da db s
    → Down d a da' → Down d b db' → Carry d da' db' t
    → Down d (a + b) e
    → Down s c sc → Carry s sc e p
    → Down s c sc' → Parity s sc' e ones
    → Down t c tc → Parity t tc p twos
    → Down t c tc' → Carry t tc' p fours
    → Counted d a b c ones twos fours
unfolding seven_bits
counted {d = d} {a = a} {b = b} {c = c} {s = s} {t = t} {p = p} {ones = ones} {twos = twos} {fours = fours} ha hb hs ka kb ht he hsc hp ksc h1 htc h2 ktc h4 =
    record { count = λ i. omega (arith, one i, other i, all i) }
  where
    one : (i : ℕ) → bit i s + 2 * bit i t ≡ bit i d + bit (4 * a + i) d + bit (4 * b + i) d
    one i = omega (arith, ha.moved i, hb.moved i, hs.low i, ka.moved i, kb.moved i, ht.high i)

    other : (i : ℕ) → bit (4 * c + i) s + 2 * bit (4 * c + i) t ≡ bit (4 * c + i) d + bit (4 * (c + a) + i) d + bit (4 * (c + b) + i) d
    other i = one (4 * c + i) ∙ ap₂ (λ x y. bit (4 * c + i) d + bit x d + bit y d) (omega arith) (omega arith)

    first : (i : ℕ) → bit i ones + 2 * bit i p ≡ bit i s + bit (4 * c + i) s + bit (4 * (a + b) + i) d
    first i = omega (arith, he.moved i, hsc.moved i, hp.high i, ksc.moved i, h1.low i)

    second : (i : ℕ) → bit i twos + 2 * bit i fours ≡ bit i t + bit (4 * c + i) t + bit i p
    second i = omega (arith, htc.moved i, h2.low i, ktc.moved i, h4.high i)

    all : (i : ℕ) → bit i ones + 2 * bit i twos + 4 * bit i fours ≡ bit i s + 2 * bit i t + (bit (4 * c + i) s + 2 * bit (4 * c + i) t) + bit (4 * (a + b) + i) d
    all i = omega (arith, first i, second i)

-- the low three bits of lane t are the bits of its value
pub lane_bit_lem : (d t j : ℕ) → j < 3 → bit (4 * t + j) d ≡ bit j (digit 4 d t)
unfolding bit digit
lane_bit_lem d t j h = ap (λ x. x % 2) (sym (shr-shr d (4 * t) j)) ∙ low j h (d / 2 ^ (4 * t))
  where
    low : (j : ℕ) → j < 3 → (x : ℕ) → x / 2 ^ j % 2 ≡ x % 16 / 2 ^ j % 2
    low zero h x = omega arith
    low (suc zero) h x = omega arith
    low (suc (suc zero)) h x = omega arith
    low (suc (suc (suc j))) h x = absurd (not-suc-le-zero (le_of_suc-le-suc (le_of_suc-le-suc (le_of_suc-le-suc h))))
