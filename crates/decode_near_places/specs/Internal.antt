-- In how many places of a run two lists differ.
use Rattle.std.specs.Prelude.{ℕ, ◌+◌, List}
use Rattle.code_theory.specs.Sum.{sum, at}
use Rattle.code_theory.specs.Modular.{differ}

-- in how many of the n places from place i on a and b differ
unfoldable pub differing : List ℕ → List ℕ → ℕ → ℕ → ℕ
differing a b i n = sum n (λ j. differ (at a (i + j)) (at b (i + j)))
