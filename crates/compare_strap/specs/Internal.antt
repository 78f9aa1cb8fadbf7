-- The answer of Unpack as one number, for the comparison with Rust.
use Rattle.std.specs.Prelude.{ℕ, ◌+◌, ◌*◌}
use Rattle.code_theory.specs.Sum.{at}
use Rattle.code_theory.specs.Question.{Answer, accepted, refused}

-- the refusal number, or 1,000,000 + 1,000 × rate + zone: the two values of an accepted Unpack
unfoldable pub unpack_number : Answer → ℕ
unpack_number (accepted values) = 1000000 + 1000 * at values 0 + at values 1
unpack_number (refused number) = number
