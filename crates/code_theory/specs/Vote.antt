-- The votes for the symbols of a message (docs/REQUIREMENTS.md: Votes; HPL-98-195, definition 1).
use Rattle.std.specs.Prelude.{ℕ, zero, suc, ◌+◌, ◌^◌}
use Rattle.code_theory.specs.Sum.{sum}
use Rattle.code_theory.specs.Index.{bit, if_clear}
use Rattle.code_theory.specs.Modular.{sub_mod, same}
use Rattle.code_theory.specs.Code.{linear}

-- how many of the places 0 to n - 1 give a vote for v: place i gives the vote given i where closed i is 0, and none where it is 1
unfoldable pub count : ℕ → (ℕ → ℕ) → (ℕ → ℕ) → ℕ → ℕ
count n closed given v = sum n (λ i. if_clear (closed i) (same (given i) v))

-- the vote for coefficient k that place i gives, where its bit k is 0
unfoldable pub vote : ℕ → ℕ → (ℕ → ℕ) → ℕ → ℕ
vote q k y i = sub_mod q (y (i + 2 ^ k)) (y i)

-- the votes of the word y for coefficient k
unfoldable pub votes : ℕ → ℕ → ℕ → (ℕ → ℕ) → ℕ → ℕ
votes q m k y = count (2 ^ m) (bit k) (vote q k y)

-- what is left of the word y at i when the coefficients of the message s are taken out
unfoldable pub residue : ℕ → ℕ → (ℕ → ℕ) → (ℕ → ℕ) → ℕ → ℕ
residue q m s y i = sub_mod q (y i) (linear m (λ k. s (suc k)) i)

-- the votes of the word y for the constant: every place gives what is left there
unfoldable pub residues : ℕ → ℕ → (ℕ → ℕ) → (ℕ → ℕ) → ℕ → ℕ
residues q m s y = count (2 ^ m) (λ i. 0) (residue q m s y)

-- the votes for symbol k of the message s: the constant at 0, coefficient k - 1 at k
unfoldable pub tally : ℕ → ℕ → (ℕ → ℕ) → (ℕ → ℕ) → ℕ → ℕ → ℕ
tally q m s y zero = residues q m s y
tally q m s y (suc k) = votes q m k y
