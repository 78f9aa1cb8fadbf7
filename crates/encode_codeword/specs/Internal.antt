-- A message and a buffer for its word, and the steps by which the word is written.
use Rattle.std.specs.Prelude.{ℕ, suc, ◌^◌, ◌+◌, ◌*◌, ◌≤◌, ◌<◌, ◌%◌, ◌≡◌, List, length, true}
use Rattle.code_theory.specs.Sum.{at}
use Rattle.code_theory.specs.Code.{linear, symbol_at, Below}
use Rattle.code_theory.specs.Question.{is_alphabet}

-- s is a message of m coefficients below q, and its word fits the buffer w
pub record Fits (q m : ℕ) (s w : List ℕ) : Type 0 where
  pub alphabet : is_alphabet q ≡ true
  pub low : 2 ≤ m
  pub high : m ≤ 8
  pub size : m < length s
  pub below : Below q m (at s)
  pub room : 2 ^ m ≤ length w

-- the first 2 ^ m places of w hold the word of s
pub record Coded (q m : ℕ) (s w : List ℕ) : Type 0 where
  pub each : (i : ℕ) → i < 2 ^ m → at w i ≡ symbol_at q m (at s) i

-- v is w with the word of s in its first 2 ^ m places, and the others kept
pub record Written (q m : ℕ) (s w v : List ℕ) : Type 0 where
  pub size : length v ≡ length w
  pub coded : Coded q m s v
  pub rest : (i : ℕ) → 2 ^ m ≤ i → at v i ≡ at w i

-- s has n symbols or more, and its first n are below 8, the largest alphabet
pub record Small (n : ℕ) (s : List ℕ) : Type 0 where
  pub size : n ≤ length s
  pub below : (k : ℕ) → k < n → at s k < 8

-- symbol i of the word of s before its remainder is taken
unfoldable pub unreduced : ℕ → (ℕ → ℕ) → ℕ → ℕ
unreduced m s i = s 0 + linear m (λ k. s (suc k)) i

-- v is w with its first len symbols, each plus a modulo q, in the places from len on, and the others kept
pub record Doubled (q len a : ℕ) (w v : List ℕ) : Type 0 where
  pub size : length v ≡ length w
  pub low : (j : ℕ) → j < len → at v j ≡ at w j
  pub high : (j : ℕ) → j < len → at v (j + len) ≡ (at w j + a) % q
  pub rest : (j : ℕ) → 2 * len ≤ j → at v j ≡ at w j
