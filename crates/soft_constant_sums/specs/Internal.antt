-- The coefficients that were found, and the quarter turns that they ask for.
use Rattle.std.specs.Prelude.{◌≡◌, ℕ, suc, ◌%◌, ◌^◌, ◌<◌, List, length}
use Rattle.code_theory.specs.Sum.{at}
use Rattle.code_theory.specs.Code.{linear}

-- the coefficients that found holds
unfoldable pub coefficients_in : List ℕ → ℕ → ℕ
coefficients_in found k = at found (suc k)

-- nine symbols: 0 in place 0, and the coefficients, below 4, in places 1 to m
pub record Coefficients (m : ℕ) (found : List ℕ) : Type 0 where
  pub size : length found ≡ 9
  pub zeroth : at found 0 ≡ 0
  pub below : (k : ℕ) → k < m → at found (suc k) < 4

-- turns holds, below 2 ^ k, the quarter turns that the first k coefficients of found ask for
pub record Turns (k : ℕ) (found turns : List ℕ) : Type 0 where
  pub size : length turns ≡ 256
  pub each : (i : ℕ) → i < 2 ^ k → at turns i ≡ linear k (coefficients_in found) i % 4
