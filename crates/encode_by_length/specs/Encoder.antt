-- What Write asks and what word it leaves, for every input (docs/REQUIREMENTS.md: Write).
use Rattle.std.specs.Prelude.{ℕ, List}
use Rattle.code_theory.specs.Code.{codeword}
use Rattle.code_theory.specs.Question.{ask, is_alphabet, is_variables, is_message_size, is_word_size, all_below, after}

-- Write asks 1, 2, 5, 6, 7
unfoldable pub encode_refusal : ℕ → ℕ → List ℕ → List ℕ → ℕ
encode_refusal q m message word =
    ask (is_alphabet q) 1
    (ask (is_variables m) 2
    (ask (is_message_size m message) 5
    (ask (all_below q message) 6
    (ask (is_word_size m word) 7 0))))

-- the word slice after Write
unfoldable pub encode_word : ℕ → ℕ → List ℕ → List ℕ → List ℕ
encode_word q m message word = after (encode_refusal q m message word) (codeword q m message) word
