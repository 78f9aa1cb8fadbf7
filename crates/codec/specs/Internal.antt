-- The part of the questions of Read that two helpers of the code ask; decode_refusal of Codec.antt has them all.
use Rattle.std.specs.Prelude.{ℕ, List}
use Rattle.code_theory.specs.Question.{ask, is_alphabet, is_variables, is_message_size, is_word_size, all_below}

-- questions 1, 2 and 5
unfoldable pub size_refusal : ℕ → ℕ → List ℕ → ℕ
size_refusal q m message = ask (is_alphabet q) 1 (ask (is_variables m) 2 (ask (is_message_size m message) 5 0))

-- questions 1, 2, 5, 7 and 8: those before the word is read
unfoldable pub word_refusal : ℕ → ℕ → List ℕ → List ℕ → ℕ
word_refusal q m message word =
    ask (is_alphabet q) 1
    (ask (is_variables m) 2
    (ask (is_message_size m message) 5
    (ask (is_word_size m word) 7
    (ask (all_below q word) 8
    0))))
