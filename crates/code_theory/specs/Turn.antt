-- Words turned by a number: every symbol goes up by t modulo q.
use Rattle.std.specs.Prelude.{ℕ, ◌+◌, ◌%◌, ◌^◌}
use Rattle.code_theory.specs.Sum.{sum}
use Rattle.code_theory.specs.Modular.{differ}

-- the word x turned by t
unfoldable pub turn : ℕ → ℕ → (ℕ → ℕ) → ℕ → ℕ
turn q t x i = (x i + t) % q

-- in how many places the word y differs from x turned by t (docs/REQUIREMENTS.md: Whole sessions, altered)
unfoldable pub altered : ℕ → ℕ → ℕ → (ℕ → ℕ) → (ℕ → ℕ) → ℕ
altered q m t x y = sum (2 ^ m) (λ i. differ (turn q t x i) (y i))
