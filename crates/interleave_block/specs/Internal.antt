-- What the copies and the loops over blocks leave.
use Rattle.std.specs.Prelude.{ℕ, ◌+◌, ◌*◌, ◌<◌, ◌≡◌, ◌≢◌, List, length}
use Rattle.code_theory.specs.Sum.{at}

-- y has n symbols of x, those from place i on, at place j and after, and else the symbols of z
pub record Copied (n : ℕ) (x : List ℕ) (i : ℕ) (z y : List ℕ) (j : ℕ) : Type 0 where
  pub size : length y ≡ length z
  pub copied : (k : ℕ) → k < n → at y (j + k) ≡ at x (i + k)
  pub kept : (p : ℕ) → ((k : ℕ) → k < n → p ≢ j + k) → at y p ≡ at z p

-- and so with n rows of sixteen symbols, which begin every a places in x and every b places in y
pub record RowsCopied (n : ℕ) (x : List ℕ) (i a : ℕ) (z y : List ℕ) (j b : ℕ) : Type 0 where
  pub size : length y ≡ length z
  pub copied : (r k : ℕ) → r < n → k < 16 → at y (j + r * b + k) ≡ at x (i + r * a + k)
  pub kept : (p : ℕ) → ((r k : ℕ) → r < n → k < 16 → p ≢ j + r * b + k) → at y p ≡ at z p

-- of x, a rows of b symbols, transposed, y has the first s rows and in the sixteen rows after them the first w symbols
pub record Done (a b s w : ℕ) (x y : List ℕ) : Type 0 where
  pub size : length y ≡ a * b
  pub rows : (u v : ℕ) → u < s → v < a → at y (u * a + v) ≡ at x (v * b + u)
  pub part : (u v : ℕ) → u < s + 16 → v < w → at y (u * a + v) ≡ at x (v * b + u)
