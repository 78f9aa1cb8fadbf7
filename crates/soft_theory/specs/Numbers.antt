-- The numbers that samples and sums are made of: f32, where each operation rounds once, and the whole numbers.
use Rattle.std.specs.Prelude.{ℕ, Bool, ℤ, pos, neg_ℤ, ◌+ℤ◌, ◌-ℤ◌, ◌*ℤ◌, Float}
use Rattle.std.specs.Int.Signed.{lt_z, le_z}
use Rattle.std.specs.Float.{binary32}
use Rattle.std.specs.Float.Ieee.{of_int}
use Rattle.std.specs.Float.Ieee as ieee

-- the operations that docs/REQUIREMENTS.md asks for, and the numbers 0, 2, 3 and 127
pub record Numbers (A : Type 0) : Type 0 where
  pub number : ℕ → A
  pub add : A → A → A
  pub sub : A → A → A
  pub mul : A → A → A
  pub neg : A → A
  pub lt : A → A → Bool
  pub le : A → A → Bool

-- f32, by the toolchain's account of IEEE 754
abbrev pub f32 : Numbers Float
f32 = record {
  number = λ n. of_int binary32 (pos n);
  add = ieee.add binary32;
  sub = ieee.sub binary32;
  mul = ieee.mul binary32;
  neg = ieee.neg;
  lt = ieee.lt;
  le = ieee.le;
}

-- whole numbers, where nothing is rounded
abbrev pub integers : Numbers ℤ
integers = record {
  number = pos;
  add = ◌+ℤ◌;
  sub = ◌-ℤ◌;
  mul = ◌*ℤ◌;
  neg = neg_ℤ;
  lt = lt_z;
  le = le_z;
}
