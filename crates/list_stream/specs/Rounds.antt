-- One round of the program session_list: what is fed, what is written and what comes next, for each answer of a read.
use Rattle.std.specs.Prelude.{ℕ, zero, suc, ◌+◌, ◌≤◌, ◌≡◌, List, [], length, take, drop, ℤ, Result, Ok, Err}
use Rattle.text_buffer.specs.Text.{put}
use Rattle.session_receiver.specs.declared.Receiver.{Receiver}
use Rattle.text_chunks.specs.declared.Next.{Next}
use Rattle.text_chunks.specs.declared.Next.TheVariants.{End}
use Rattle.text_chunks.specs.Chunks.{Progress, fed, fed_text, fed_count, fed_part, end_text}
use Rattle.text_chunks.specs.Kept.{Kept, kept_bytes}
use Rattle.text_chunks.specs.Reading.{after_failure, after_part}
use Rattle.list_stream.specs.declared.Lister.{Lister}
use Rattle.list_stream.specs.declared.Round.{Round}
use Rattle.list_stream.specs.Stream.{reader, progress, Fit}

-- as many of the bytes from place n on as the output has room for are fed, and their text is to be written
pub record Part (p : Progress Receiver) (line bytes : List ℕ) (n : ℕ) (before after : List ℕ) (r : Round) : Type 0 where
  pub state : progress r.lister line ≡ fed reader p (fed_part reader p (length before) bytes n)
  pub count : r.written ≡ length (fed_text reader p (fed_part reader p (length before) bytes n))
  pub buffer : after ≡ put before 0 (fed_text reader p (fed_part reader p (length before) bytes n))
  pub next : r.next ≡ after_part r.lister.over (n + fed_count reader p (length before) (drop n bytes)) (length bytes)
  pub room : r.written ≤ length after
  pub fit : Fit r.lister

-- nothing is fed, and this text is to be written; the whole slice that is lent for a line is as it was
pub record Unfed (l : Lister) (line line' : Kept) (text before after : List ℕ) (next : Next) (r : Round) : Type 0 where
  pub lister : r.lister ≡ l
  pub kept : line' ≡ line
  pub count : r.written ≡ length text
  pub buffer : after ≡ put before 0 text
  pub then : r.next ≡ next
  pub room : r.written ≤ length after
  pub fit : Fit r.lister

-- ONE ROUND, by what the read gave: its error, no bytes, or some
abbrev pub RoundOf : Result ℕ ℤ → Lister → Kept → Kept → List ℕ → ℕ → List ℕ → List ℕ → Round → Type 0
RoundOf (Err error) l line line' chunk n before after r = Unfed l line line' [] before after (after_failure error) r
RoundOf (Ok zero) l line line' chunk n before after r = Unfed l line line' (end_text reader (progress l (kept_bytes line))) before after End r
RoundOf (Ok (suc k)) l line line' chunk n before after r = Part (progress l (kept_bytes line)) (kept_bytes line') (take (suc k) chunk) n before after r
