-- Rows of terms, and the sums of several coefficients on the way to those of all.
use Rattle.std.specs.Prelude.{◌≡◌, ℕ, zero, suc, ◌+◌, ◌*◌, ◌≤◌, ◌<◌, List, [], ◌∷◌, length, get_or, Float}
use Rattle.std.specs.Float.{binary32}
use Rattle.std.specs.Float.Ieee.{of_bits}
use Rattle.soft_theory.specs.Numbers.{f32}
use Rattle.soft_theory.specs.Complex.{Complex, sample}
use Rattle.soft_theory.specs.Soft.{vote_sums}
use Rattle.soft_theory.specs.Internal.{votes_to}
use Rattle.soft_vote_sums.specs.declared.Sums.{Sums}
use Rattle.soft_all_sums.specs.declared.Row.{Row}
use Rattle.soft_vote_sums.specs.Pair.{pair}
use Rattle.soft_vote_sums.specs.Internal.{complex, vote_at}

-- no sum
abbrev pub none : Sums
none = record { re = of_bits binary32 0; im = of_bits binary32 0 }

-- no terms
unfoldable pub no_row : Row
no_row = record { re = []; im = [] }

-- what a row holds at x
abbrev pub in_row : Row → ℕ → Complex Float
in_row row x = complex (get_or row.re x (f32.number 0)) (get_or row.im x (f32.number 0))

-- the row holds the first x of the eight votes of coefficient k from place 8 b on
pub record Holds (re im : List Float) (k b : ℕ) (row : Row) (x : ℕ) : Type 0 where
  pub reals : length row.re ≡ 8
  pub imaginaries : length row.im ≡ 8
  pub each : (y : ℕ) → y < x → in_row row y ≡ vote_at re im k (8 * b + y)

-- the rows of the coefficients from 2 to k hold their eight votes
pub record Rows (re im : List Float) (b : ℕ) (rows : List Row) (k : ℕ) : Type 0 where
  pub size : length rows ≡ 8
  pub each : (l : ℕ) → 2 ≤ l → l < k → Holds re im l b (get_or rows l no_row) 8

-- the sums of the first j votes of coefficient l
unfoldable pub votes_of : List Float → List Float → ℕ → ℕ → Complex Float
votes_of re im j l = votes_to f32 l (sample f32 re im) j

-- the sums of all its votes
unfoldable pub sums_of : ℕ → List Float → List Float → ℕ → Complex Float
sums_of m re im l = vote_sums f32 m l (sample f32 re im)

-- the sums that the array s holds at place l
unfoldable pub held : List Sums → ℕ → Complex Float
held s l = pair (get_or s l none)

-- no sums: n zeros
unfoldable pub nones : ℕ → List Sums
nones zero = []
nones (suc n) = none ∷ nones n

-- eight of them
abbrev pub zeros : List Sums
zeros = nones 8

-- eight sums, those from place m on zeros
pub record Past (m : ℕ) (s : List Sums) : Type 0 where
  pub size : length s ≡ 8
  pub past : (l : ℕ) → m ≤ l → held s l ≡ pair none

-- s holds the sums of the first j votes of the coefficients from low to m
pub record SumsTo (low : ℕ) (re im : List Float) (j : ℕ) (s : List Sums) (m : ℕ) : Type 0 where
  pub rest : Past m s
  pub each : (l : ℕ) → low ≤ l → l < m → held s l ≡ votes_of re im j l

-- u holds f from place low to place k, and from there on what s holds
pub record Stored (f : ℕ → Complex Float) (low : ℕ) (s u : List Sums) (k : ℕ) : Type 0 where
  pub size : length u ≡ 8
  pub done : (l : ℕ) → low ≤ l → l < k → held u l ≡ f l
  pub rest : (l : ℕ) → k ≤ l → held u l ≡ held s l

-- s holds the sums of the votes for every coefficient, and zeros past them
pub record AllSums (m : ℕ) (re im : List Float) (s : List Sums) : Type 0 where
  pub rest : Past m s
  pub each : (l : ℕ) → l < m → held s l ≡ vote_sums f32 m l (sample f32 re im)
