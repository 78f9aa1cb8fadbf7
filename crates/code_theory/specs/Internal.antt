-- What several crates and their proofs need beside the definitions of the code.
use Rattle.std.specs.Prelude.{ℕ, zero, suc, ◌+◌, ◌*◌, ◌/◌, ◌%◌, ◌^◌, ◌≤◌, ◌<◌, max, ◌≡◌, true, List}
use Rattle.code_theory.specs.Sum.{at}
use Rattle.code_theory.specs.Modular.{sub_mod}
use Rattle.code_theory.specs.Code.{Symbols, Below, symbol_at}
use Rattle.code_theory.specs.Near.{Near}
use Rattle.code_theory.specs.Question.{is_alphabet, Answer, accepted, refused}
use Rattle.code_theory.specs.Vote.{tally}

-- ---- indices, sums
-- the j-th index with bit k clear: j with a 0 put in at bit k
unfoldable pub nth_clear : ℕ → ℕ → ℕ
nth_clear k j = j + j / 2 ^ k * 2 ^ k

-- f 1 + .. + f n
unfoldable pub sum_from1 : ℕ → (ℕ → ℕ) → ℕ
sum_from1 zero f = 0
sum_from1 (suc n) f = sum_from1 n f + f (suc n)

-- the most of f 1 to f n, 0 where there is none
unfoldable pub max_from1 : ℕ → (ℕ → ℕ) → ℕ
max_from1 zero f = 0
max_from1 (suc n) f = max (max_from1 n f) (f (suc n))

-- ---- messages and received words
-- the message s with its constant turned by t
unfoldable pub turned : ℕ → ℕ → (ℕ → ℕ) → ℕ → ℕ
turned q t s zero = (s 0 + t) % q
turned q t s (suc k) = s (suc k)

-- what a reader of words asks for: a received word of 2 ^ m symbols
pub record WellFormed (q m : ℕ) (w : List ℕ) : Type 0 where
  pub alphabet : is_alphabet q ≡ true
  pub low : 2 ≤ m
  pub high : m ≤ 8
  pub symbols : Symbols q (2 ^ m) w

-- the errors of the word y: what it differs by from the word of the message s
unfoldable pub error : ℕ → ℕ → (ℕ → ℕ) → (ℕ → ℕ) → ℕ → ℕ
error q m s y i = sub_mod q (y i) (symbol_at q m s i)

-- no value has more votes than the symbol of the message s
abbrev pub Winners : ℕ → ℕ → (ℕ → ℕ) → (ℕ → ℕ) → Type 0
Winners q m s y = (k : ℕ) → k < suc m → (v : ℕ) → v < q → tally q m s y k v ≤ tally q m s y k (s k)

-- no other message than the one at the front of d is near the word w
abbrev pub OnlyNear : ℕ → ℕ → List ℕ → List ℕ → Type 0
OnlyNear q m w d = (s : ℕ → ℕ) → Below q m s → Near q m s (at w) → (k : ℕ) → k < suc m → at d k ≡ s k

-- ---- answers
-- an answer as one number: 100 where it is accepted, or the refusal
unfoldable pub answer_number : Answer → ℕ
answer_number (accepted values) = 100
answer_number (refused number) = number
