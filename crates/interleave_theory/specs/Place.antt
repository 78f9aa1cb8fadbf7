-- Where each symbol of a group of words goes (docs/REQUIREMENTS.md: Rearrange and Put back).
use Rattle.std.specs.Prelude.{ℕ, ◌+◌, ◌*◌, ◌/◌, ◌%◌, List}
use Rattle.code_theory.specs.Sum.{tabulate, at}

-- THE PLACE. A symbol at place w × b + s of a rows of b symbols is at place s × a + w of b rows of a symbols. Where p is the second of
-- these places, this is the first.
unfoldable pub across : ℕ → ℕ → ℕ → ℕ
across a b p = (p % a) * b + p / a

-- a rows of b symbols as b rows of a symbols
unfoldable pub transposed : ℕ → ℕ → List ℕ → List ℕ
transposed a b x = tabulate (a * b) (λ p. at x (across a b p))

-- a group of W words of n symbols rearranged: place s × W + w has symbol s of word w, which stood at w × n + s
abbrev pub rearranged : ℕ → ℕ → List ℕ → List ℕ
rearranged count n x = transposed count n x

-- and put back: place w × n + s has the symbol that stood at s × W + w
abbrev pub put_back : ℕ → ℕ → List ℕ → List ℕ
put_back count n y = transposed n count y
