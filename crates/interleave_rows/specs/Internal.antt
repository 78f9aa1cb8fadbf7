-- What a loop over the rows of the source leaves behind it.
use Rattle.std.specs.Prelude.{ℕ, ◌+◌, ◌*◌, ◌<◌, ◌≡◌, List}
use Rattle.code_theory.specs.Sum.{at}

-- of x, a rows of b symbols, transposed, y has the symbols of the first w rows and the first k of the row after them
pub record Scattered (a b w k : ℕ) (x y : List ℕ) : Type 0 where
  pub rows : (s v : ℕ) → s < b → v < w → at y (s * a + v) ≡ at x (v * b + s)
  pub part : (s : ℕ) → s < k → at y (s * a + w) ≡ at x (w * b + s)
