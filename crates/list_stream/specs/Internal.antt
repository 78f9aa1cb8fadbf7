-- What the code does with the bytes up to the end of a line.
use Rattle.std.specs.Prelude.{ℕ, ◌+◌, ◌≤◌, ◌<◌, ◌≡◌, false, List, length}
use Rattle.session_receiver.specs.declared.Receiver.{Receiver}
use Rattle.text_chunks.specs.Chunks.{Progress}
use Rattle.text_chunks.specs.Internal.{Took}
use Rattle.list_line.specs.declared.Listed.{Listed}
use Rattle.list_stream.specs.declared.Lister.{Lister}
use Rattle.list_stream.specs.declared.Step.{Step}
use Rattle.list_stream.specs.Stream.{reader, progress, Fit}

-- what a line that is listed leaves
pub record Ended (listed : Listed) (count : ℕ) (r : Step) : Type 0 where
  pub receiver : r.lister.receiver ≡ listed.receiver
  pub over : r.lister.over ≡ listed.over
  pub next : r.next ≡ listed.next
  pub read : r.read ≡ count

-- what bytes are read with: a lister that goes on, and 64 places left in the buffer
pub record Goes (l : Lister) (bytes out : List ℕ) (place : ℕ) : Type 0 where
  pub fit : Fit l
  pub on : l.over ≡ false
  pub some : 0 < length bytes
  pub room : place + 64 ≤ length out

-- what the bytes that are read leave
pub record Reads (p : Progress Receiver) (bytes before : List ℕ) (place : ℕ) (r : Step) (line out : List ℕ) : Type 0 where
  pub took : Took reader p bytes before place (progress r.lister line) r.next r.read out
  pub fit : Fit r.lister
