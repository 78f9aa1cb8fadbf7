-- The value that most of 3, 7 or 15 lanes of four bits have, and how it is counted, all bits at once.
use Rattle.std.specs.Prelude.{ℕ, ◌+◌, ◌≤◌, ◌<◌, ◌*◌, ◌/◌, ◌%◌, ◌≡◌}
use Rattle.code_theory.specs.Modular.{same}
use Rattle.code_theory.specs.Index.{bit}
use Rattle.swar_theory.specs.Internal.{digit}

-- ---- how many lanes have a value, and the value that most of them have
-- how many of the lanes 0, a and b of d are v
unfoldable pub three_of : ℕ → ℕ → ℕ → ℕ → ℕ
three_of d a b v = same (digit 4 d 0) v + same (digit 4 d a) v + same (digit 4 d b) v

-- how many of the lanes 0, a, b, a + b, c, c + a and c + b of d are v
unfoldable pub seven_of : ℕ → ℕ → ℕ → ℕ → ℕ → ℕ
seven_of d a b c v =
    same (digit 4 d 0) v + same (digit 4 d a) v + same (digit 4 d b) v + same (digit 4 d (a + b)) v + same (digit 4 d c) v + same (digit 4 d (c + a)) v + same (digit 4 d (c + b)) v

-- how many of fifteen lanes are v: these seven lanes of d, the same seven of e, and lane a + b + c of e
unfoldable pub fifteen_of : ℕ → ℕ → ℕ → ℕ → ℕ → ℕ → ℕ
fifteen_of d e a b c v = seven_of d a b c v + seven_of e a b c v + same (digit 4 e (a + b + c)) v

-- r is a value below q, and the one that n lanes or more have, where there is such a value; f counts the lanes of a value
pub record Most (q n : ℕ) (f : ℕ → ℕ) (r : ℕ) : Type 0 where
  pub fits : r < q
  pub is : (v : ℕ) → v < q → n ≤ f v → r ≡ v

-- ---- counts that stand across numbers: the bits i of several numbers are together the count at bit i
-- at each bit, r has the low bit of the sum of the bits of a, b and c
pub record Parity (a b c r : ℕ) : Type 0 where
  pub low : (i : ℕ) → bit i r ≡ (bit i a + bit i b + bit i c) % 2

-- at each bit, r has the high bit of the sum of the bits of a, b and c
pub record Carry (a b c r : ℕ) : Type 0 where
  pub high : (i : ℕ) → bit i r ≡ (bit i a + bit i b + bit i c) / 2

-- r is d with lane a moved to lane 0
pub record Down (d a r : ℕ) : Type 0 where
  pub moved : (i : ℕ) → bit i r ≡ bit (4 * a + i) d

-- how many of the lanes 0, a, b, a + b, c, c + a and c + b have their bit i set
unfoldable pub seven_bits : ℕ → ℕ → ℕ → ℕ → ℕ → ℕ
seven_bits d a b c i =
    bit i d + bit (4 * a + i) d + bit (4 * b + i) d + bit (4 * (a + b) + i) d + bit (4 * c + i) d + bit (4 * (c + a) + i) d + bit (4 * (c + b) + i) d

-- at each bit, ones, twos and fours have the three bits of the count of the seven lanes
pub record Counted (d a b c ones twos fours : ℕ) : Type 0 where
  pub count : (i : ℕ) → bit i ones + 2 * bit i twos + 4 * bit i fours ≡ seven_bits d a b c i
