-- What the code finds in a line, and where a line ends.
use Rattle.std.specs.Prelude.{ℕ, suc, Bool, ◌&&◌, cond, List, [], ◌∷◌, eqb, ltb, length, take}
use Rattle.code_theory.specs.Sum.{at}
use Rattle.text_lines.specs.declared.Kind.{Kind}
use Rattle.text_lines.specs.declared.Kind.TheVariants as K
use Rattle.text_lines.specs.Line.{is_slot, is_miss, Line, slot, miss, bad, word_of}

-- the line of each case of the enum
unfoldable pub line_of : Kind → List ℕ → Line
line_of K.Slot line = slot (word_of line)
line_of K.Miss line = miss
line_of K.Bad line = bad

-- how many bytes stand before the first newline: all where there is none
unfoldable pub line_length : List ℕ → ℕ
line_length [] = 0
line_length (b ∷ bytes) = cond (eqb b 10) 0 (suc (line_length bytes))

-- whether bytes begin with a slot and the newline behind it
unfoldable pub has_slot : List ℕ → Bool
has_slot bytes = ltb 16 (length bytes) && (eqb (at bytes 16) 10 && is_slot (take 16 bytes))

-- whether the first n bytes are a miss and at least one more follows: the newline, where n bytes stand before the first one
unfoldable pub has_miss : ℕ → List ℕ → Bool
has_miss n bytes = ltb n (length bytes) && is_miss (take n bytes)
