-- The code RM_q(1, m): the word of a message (docs/REQUIREMENTS.md: Word; HPL-98-195, section 2.1).
use Rattle.std.specs.Prelude.{ℕ, suc, ◌+◌, ◌*◌, ◌%◌, ◌^◌, ◌<◌, ◌≡◌, List, length}
use Rattle.code_theory.specs.Sum.{sum, tabulate, at}
use Rattle.code_theory.specs.Index.{bit}

-- what the coefficients c 0 to c (m - 1) add at index i: c k for each k whose bit of i is 1
unfoldable pub linear : ℕ → (ℕ → ℕ) → ℕ → ℕ
linear m c i = sum m (λ k. c k * bit k i)

-- symbol i of the word of the message s: s 0 is the constant a, s (k + 1) the coefficient a_k
unfoldable pub symbol_at : ℕ → ℕ → (ℕ → ℕ) → ℕ → ℕ
symbol_at q m s i = (s 0 + linear m (λ k. s (suc k)) i) % q

-- the word of the message t
unfoldable pub codeword : ℕ → ℕ → List ℕ → List ℕ
codeword q m t = tabulate (2 ^ m) (symbol_at q m (at t))

-- l symbols, each below q; a message of RM_q(1, m) is such a list with l = m + 1
pub record Symbols (q l : ℕ) (t : List ℕ) : Type 0 where
  pub size : length t ≡ l
  pub below : (i : ℕ) → i < l → at t i < q

-- the m + 1 symbols of s are below q
abbrev pub Below : ℕ → ℕ → (ℕ → ℕ) → Type 0
Below q m s = (k : ℕ) → k < suc m → s k < q
