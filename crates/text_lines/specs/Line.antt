-- The lines of the input (docs/REQUIREMENTS.md: the session list).
use Rattle.std.specs.Prelude.{ℕ, ◌-◌, Bool, true, ◌&&◌, cond, List, [], ◌∷◌, ◌++◌, map, eqb, leb, length}
use Rattle.code_theory.specs.Sum.{at}

-- the lines of an input that begins inside a line, of which part has been read: a newline ends a line, the last may lack it
unfoldable pub lines_from : List ℕ → List ℕ → List (List ℕ)
lines_from [] [] = []
lines_from (b ∷ part) [] = (b ∷ part) ∷ []
lines_from part (b ∷ bytes) = cond (eqb b 10) (part ∷ lines_from [] bytes) (lines_from (part ++ (b ∷ [])) bytes)

-- what a line says: a slot with its word, a miss, or neither
pub data Line : Type 0 where
  slot : List ℕ → Line
  miss : Line
  bad : Line

-- whether a byte is a digit 0 to 3
unfoldable pub is_digit : ℕ → Bool
is_digit b = leb 48 b && leb b 51

-- whether every byte is one
unfoldable pub is_digits : List ℕ → Bool
is_digits [] = true
is_digits (b ∷ line) = is_digit b && is_digits line

-- 16 digits 0 to 3 are one slot
unfoldable pub is_slot : List ℕ → Bool
is_slot line = eqb (length line) 16 && is_digits line

-- `-` is a miss
unfoldable pub is_miss : List ℕ → Bool
is_miss line = eqb (length line) 1 && eqb (at line 0) 45

-- the symbols of the digits
unfoldable pub word_of : List ℕ → List ℕ
word_of line = map (λ b. b - 48) line

-- any other line, an empty one included, is malformed: bad
unfoldable pub read_line : List ℕ → Line
read_line line = cond (is_slot line) (slot (word_of line)) (cond (is_miss line) miss bad)
