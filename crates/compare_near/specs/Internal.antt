-- The answer of Confirm as one number, for the comparison with Rust.
use Rattle.std.specs.Prelude.{ℕ, ◌+◌}
use Rattle.code_theory.specs.Sum.{at}
use Rattle.code_theory.specs.Question.{Answer, accepted, refused}

-- the refusal number, or 100 + 1 for yes and 100 + 0 for no
unfoldable pub near_number : Answer → ℕ
near_number (accepted values) = 100 + at values 0
near_number (refused number) = number
