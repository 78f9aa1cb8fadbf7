-- What encode and decode answer and leave, for every input (docs/REQUIREMENTS.md: Write and Read).
use Rattle.std.specs.Prelude.{ℕ, List, [], ◌∷◌}
use Rattle.code_theory.specs.Nearest.{is_readable, near_message, near_distance, near_margin}
use Rattle.code_theory.specs.Question.{ask, is_alphabet, is_variables, is_message_size, is_word_size, all_below, Answer, answer, after}
use Rattle.decode_reading.specs.declared.Reading.{Reading}
-- the questions of Write, and the word slice after it
unfoldable pub use Rattle.encode_by_length.specs.Encoder.{encode_refusal, encode_word}

-- Write answers no values
unfoldable pub encode_answer : ℕ → ℕ → List ℕ → List ℕ → Answer
encode_answer q m message word = answer (encode_refusal q m message word) []

-- Read asks 1, 2, 5, 7, 8, 9
unfoldable pub decode_refusal : ℕ → ℕ → List ℕ → List ℕ → ℕ
decode_refusal q m message word =
    ask (is_alphabet q) 1
    (ask (is_variables m) 2
    (ask (is_message_size m message) 5
    (ask (is_word_size m word) 7
    (ask (all_below q word) 8
    (ask (is_readable q m word) 9 0)))))

-- Read answers wrong and margin
unfoldable pub decode_answer : ℕ → ℕ → List ℕ → List ℕ → Answer
decode_answer q m message word = answer (decode_refusal q m message word) (near_distance q m word ∷ near_margin q m word ∷ [])

-- the message slice after Read
unfoldable pub decode_message : ℕ → ℕ → List ℕ → List ℕ → List ℕ
decode_message q m message word = after (decode_refusal q m message word) (near_message q m word) message

-- the values of a reading: wrong and margin
unfoldable pub reading_values : Reading → List ℕ
reading_values reading = reading.wrong ∷ reading.margin ∷ []
