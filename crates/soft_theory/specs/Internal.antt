-- The sums of some of the votes for a coefficient.
use Rattle.std.specs.Prelude.{ℕ, ◌+◌, ◌^◌}
use Rattle.code_theory.specs.Internal.{nth_clear}
use Rattle.soft_theory.specs.Numbers.{Numbers}
use Rattle.soft_theory.specs.Complex.{Complex, term, sums}

-- the sums of the first j votes for coefficient k
unfoldable pub votes_to : {A : Type 0} → Numbers A → ℕ → (ℕ → Complex A) → ℕ → Complex A
votes_to N k y j = sums N j (λ i. 0) (λ i. term N (y (nth_clear k i + 2 ^ k)) (y (nth_clear k i)))
