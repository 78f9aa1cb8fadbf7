-- An input that comes in chunks, byte by byte, for any program that reads it line by line.
use Rattle.std.specs.Prelude.{ℕ, suc, ◌-◌, Bool, false, cond, List, [], ◌∷◌, ◌++◌, eqb, ltb, length, take, drop}
use Rattle.text_lines.specs.Line.{Line, read_line}

-- what a program makes of the lines that it reads, with a state of type S between them
pub record Reader (S : Type 0) : Type 0 where
  -- the state after a line, the text that the line prints, and whether it ends the reading
  pub next : S → Line → S
  pub text : S → Line → List ℕ
  pub ends : S → Line → Bool
  -- the text printed at the end
  pub final : S → List ℕ
  -- a line is read only where so many places of the output are left
  pub room : ℕ

-- what stands between two bytes: the state, what is kept of the line that has begun, and whether the reading has ended
pub record Progress (S : Type 0) : Type 0 where
  pub state : S
  pub part : List ℕ
  pub over : Bool

-- before the first byte
unfoldable pub begins : {S : Type 0} → S → Progress S
begins s = record { state = s; part = []; over = false }

-- one byte more of a line; a line of 17 bytes is malformed, whatever follows
unfoldable pub keep : List ℕ → ℕ → List ℕ
keep part b = cond (ltb (length part) 17) (part ++ (b ∷ [])) part

-- after a byte within a line
unfoldable pub longer : {S : Type 0} → Progress S → ℕ → Progress S
longer p b = record { state = p.state; part = keep p.part b; over = p.over }

-- after the newline that ends it
unfoldable pub ended : {S : Type 0} → Reader S → Progress S → Progress S
ended R p = record { state = R.next p.state (read_line p.part); part = []; over = R.ends p.state (read_line p.part) }

-- after a byte, and the text that it brings: none once the reading has ended
unfoldable pub step : {S : Type 0} → Reader S → Progress S → ℕ → Progress S
step R p b = cond p.over p (cond (eqb b 10) (ended R p) (longer p b))

unfoldable pub step_text : {S : Type 0} → Reader S → Progress S → ℕ → List ℕ
step_text R p b = cond p.over [] (cond (eqb b 10) (R.text p.state (read_line p.part)) [])

-- after a chunk, and the text that it brings
unfoldable pub fed : {S : Type 0} → Reader S → Progress S → List ℕ → Progress S
fed R p [] = p
fed R p (b ∷ bytes) = fed R (step R p b) bytes

unfoldable pub fed_text : {S : Type 0} → Reader S → Progress S → List ℕ → List ℕ
fed_text R p [] = []
fed_text R p (b ∷ bytes) = step_text R p b ++ fed_text R (step R p b) bytes

-- how many bytes of a chunk are read, where so many places of the output are left: up to the end of the chunk or of the reading, or to the
-- byte before which there is no room for a line
unfoldable pub fed_count : {S : Type 0} → Reader S → Progress S → ℕ → List ℕ → ℕ
fed_count R p left [] = 0
fed_count R p left (b ∷ bytes) = cond p.over 0 (cond (ltb left R.room) 0 (suc (fed_count R (step R p b) (left - length (step_text R p b)) bytes)))

-- the bytes that are fed: of those from place n on as many as the output has room for
unfoldable pub fed_part : {S : Type 0} → Reader S → Progress S → ℕ → List ℕ → ℕ → List ℕ
fed_part R p left bytes n = take (fed_count R p left (drop n bytes)) (drop n bytes)

-- the text of a last line that lacks its newline, and the text printed at the end
unfoldable pub last_text : {S : Type 0} → Reader S → S → List ℕ → List ℕ
last_text R s [] = R.final s
last_text R s (b ∷ part) = R.text s (read_line (b ∷ part)) ++ R.final (R.next s (read_line (b ∷ part)))

unfoldable pub end_text : {S : Type 0} → Reader S → Progress S → List ℕ
end_text R p = cond p.over (R.final p.state) (last_text R p.state p.part)

-- the bytes of all chunks
unfoldable pub joined : List (List ℕ) → List ℕ
joined [] = []
joined (chunk ∷ chunks) = chunk ++ joined chunks

-- the texts of chunk after chunk, and of the end
unfoldable pub chunks_text : {S : Type 0} → Reader S → Progress S → List (List ℕ) → List ℕ
chunks_text R p [] = end_text R p
chunks_text R p (chunk ∷ chunks) = fed_text R p chunk ++ chunks_text R (fed R p chunk) chunks
