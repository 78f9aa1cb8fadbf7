-- The session list (docs/REQUIREMENTS.md) of an input that comes in chunks: text_chunks has it for any reader of lines, and here is the
-- reader of the session list.
use Rattle.std.specs.Prelude.{ℕ, ◌≡◌, List, []}
use Rattle.session_receiver.specs.declared.Receiver.{Receiver}
use Rattle.text_chunks.specs.Chunks.{Reader, Progress, begins}
use Rattle.list_line.specs.Listing.{line_text, line_session, line_ends, opened}
use Rattle.list_stream.specs.declared.Lister.{Lister}

-- the reader of a session's lines: nothing is printed at the end, and no line of output needs more than 64 places
abbrev pub reader : Reader Receiver
reader = record { next = line_session; text = line_text; ends = line_ends; final = λ s. []; room = 64 }

-- before the first byte
unfoldable pub begun : Progress Receiver
begun = begins opened

-- the progress that a lister holds, with the bytes that are kept of the line that has begun
unfoldable pub progress : Lister → List ℕ → Progress Receiver
progress l line = record { state = l.receiver; part = line; over = l.over }

-- what a lister goes on from: a session of q = 4, m = 4
pub record Fit (l : Lister) : Type 0 where
  pub alphabet : l.receiver.q ≡ 4
  pub variables : l.receiver.m ≡ 4
