-- What is_near answers, for every input (docs/REQUIREMENTS.md: Confirm).
use Rattle.std.specs.Prelude.{ℕ, Bool, true, false, cond, List, [], ◌∷◌}
use Rattle.code_theory.specs.Nearest.{is_near}
use Rattle.code_theory.specs.Question.{Answer, answer}
-- Confirm asks 1, 2, 5, 6, 7, which are the questions of Write
unfoldable pub use Rattle.encode_by_length.specs.Encoder.{encode_refusal}

-- Confirm answers yes, 1, where the message is near the word, counted over all places, and no, 0, where it is not
unfoldable pub near_answer : ℕ → ℕ → List ℕ → List ℕ → Answer
near_answer q m message word = answer (encode_refusal q m message word) (cond (is_near q m word message) 1 0 ∷ [])

-- the yes or no of docs/REQUIREMENTS.md for each of the two answers
unfoldable pub near_values : Bool → List ℕ
near_values true = 1 ∷ []
near_values false = 0 ∷ []
