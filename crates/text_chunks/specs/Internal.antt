-- What a program over lines and its proofs need beside the chunks themselves.
use Rattle.std.specs.Prelude.{ℕ, ◌-◌, ◌+◌, ◌≤◌, ◌<◌, Bool, false, cond, true, List, [], ◌∷◌, ◌++◌, ◌≡◌, length, take}
use Rattle.text_buffer.specs.Text.{put}
use Rattle.text_lines.specs.Line.{read_line}
use Rattle.text_chunks.specs.Chunks.{Reader, Progress, fed, fed_text, fed_count, keep}
use Rattle.text_chunks.specs.declared.Next.{Next}
use Rattle.text_chunks.specs.declared.Next.TheVariants.{Read, Rest, End, Failed}

-- what the lines print, up to the one that ends the reading
unfoldable pub told : {S : Type 0} → Reader S → S → List (List ℕ) → List ℕ
told R s [] = R.final s
told R s (line ∷ lines) =
    R.text s (read_line line) ++ cond (R.ends s (read_line line)) (R.final (R.next s (read_line line))) (told R (R.next s (read_line line)) lines)

-- a line with some bytes more
unfoldable pub keep_all : List ℕ → List ℕ → List ℕ
keep_all part [] = part
keep_all part (b ∷ bytes) = keep_all (keep part b) bytes

-- after bytes within a line
unfoldable pub within : {S : Type 0} → Progress S → List ℕ → Progress S
within p bytes = record { state = p.state; part = keep_all p.part bytes; over = p.over }

-- what some bytes that are read leave: from the progress p the progress q, with their text in the buffer from a place on, up to its end.
-- There was room for a line before each of them
pub record Took {S : Type 0} (R : Reader S) (p : Progress S) (bytes before : List ℕ) (place : ℕ) (q : Progress S) (end read : ℕ) (out : List ℕ) : Type 0 where
  pub state : q ≡ fed R p (take read bytes)
  pub next : end ≡ place + length (fed_text R p (take read bytes))
  pub buffer : out ≡ put before place (fed_text R p (take read bytes))
  pub all : fed_count R p (length before - place) (take read bytes) ≡ read
  pub some : 0 < read
  pub bound : read ≤ length bytes

-- the place of the chunk where the program goes on
unfoldable pub rest_place : Next → ℕ
rest_place (Rest place) = place
rest_place Read = 0
rest_place End = 0
rest_place (Failed error) = 0

-- what is to hold where the rest of the chunk comes next
unfoldable pub IfRest : Next → Type 0 → Type 0
IfRest (Rest place) holds = holds
IfRest Read holds = Unit
IfRest End holds = Unit
IfRest (Failed error) holds = Unit

-- whether the program goes on
unfoldable pub goes_on : Next → Bool
goes_on (Rest place) = true
goes_on Read = true
goes_on End = false
goes_on (Failed error) = false
