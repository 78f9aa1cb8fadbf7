-- The numbers that the calls from C answer (docs/REQUIREMENTS.md: C form).
use Rattle.std.specs.Prelude.{ℕ, ◌+◌, List}
use Rattle.code_theory.specs.Question.{after}
use Rattle.code_theory.specs.Nearest.{near_distance}
use Rattle.codec.specs.Codec.{encode_refusal, decode_refusal}

-- the number for a call whose questions give n, and v where they all are answered yes
unfoldable pub numbered : ℕ → ℕ → ℕ
numbered n v = after n v n

-- the number of Write: the refusal, or 100 for a word written
unfoldable pub write_number : ℕ → ℕ → List ℕ → List ℕ → ℕ
write_number q m message word = numbered (encode_refusal q m message word) 100

-- the number of Read: the refusal, or 100 + wrong for a word read
unfoldable pub read_number : ℕ → ℕ → List ℕ → List ℕ → ℕ
read_number q m message word = numbered (decode_refusal q m message word) (100 + near_distance q m word)
