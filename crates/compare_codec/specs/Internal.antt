-- The answers of encode and decode as one number each, for the comparison with Rust.
use Rattle.std.specs.Prelude.{ℕ, ◌+◌, ◌*◌, List}
use Rattle.code_theory.specs.Question.{after}
use Rattle.code_theory.specs.Nearest.{near_distance, near_margin}
use Rattle.codec.specs.Codec.{encode_refusal, decode_refusal}

-- the refusal, or 1,000,000 for a word written
unfoldable pub encode_number : ℕ → ℕ → List ℕ → List ℕ → ℕ
encode_number q m message word = after (encode_refusal q m message word) 1000000 (encode_refusal q m message word)

-- the refusal, or 1,000,000 + 1,000 × wrong + margin for a word read
unfoldable pub decode_number : ℕ → ℕ → List ℕ → List ℕ → ℕ
decode_number q m message word =
    after (decode_refusal q m message word) (1000000 + 1000 * near_distance q m word + near_margin q m word) (decode_refusal q m message word)
