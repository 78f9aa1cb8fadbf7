-- What a round leaves, by what the read gave. Assumes nothing.
use Prim.Native.Nat.{ℕ, zero, suc, ◌+◌, ◌≤◌}
use mathlib.Core.Path.{◌≡◌, ap, sym, ◌∙◌, subst}
use mathlib.Core.List.{List, []}
use native.Mathlib.Omega.{arith}
use lib.ListN.{length, take, drop, length-drop}
use lib.Seq.{length-take-le}
use Rattle.std.proofs.Common.{ℤ, Result, Ok, Err}
use Rattle.text_buffer.specs.Text.{put}
use Rattle.session_receiver.specs.declared.Receiver.{Receiver}
use Rattle.text_chunks.specs.declared.Next.{Next}
use Rattle.text_chunks.specs.Chunks.{Progress, fed, fed_text, fed_count, fed_part}
use Rattle.text_chunks.specs.Kept.{Kept, kept_bytes}
use Rattle.text_chunks.specs.Reading.{given, after_failure, after_part}
use Rattle.text_chunks.specs.Internal.{rest_place}
use Rattle.text_chunks.proofs.CountLaws.{count_le}
use Rattle.text_chunks.proofs.PartLaws.{remaining, remaining_drop}
use Rattle.text_chunks.proofs.ReadingLaws.{failed_place, part_place}
use Rattle.list_stream.specs.declared.Lister.{Lister}
use Rattle.list_stream.specs.declared.Round.{Round}
use Rattle.list_stream.specs.Stream.{reader, progress, Fit}
use Rattle.list_stream.specs.Rounds.{Part, Unfed, RoundOf}

-- what feeding them leaves
pub part_fed : (p : Progress Receiver) (bytes before after line : List ℕ) (n read written : ℕ) (l : Lister) (next : Next) → n ≤ length bytes
    → read ≡ fed_count reader p (length before) (remaining bytes n)
    → progress l line ≡ fed reader p (take read (remaining bytes n))
    → written ≡ length (fed_text reader p (take read (remaining bytes n)))
    → after ≡ put before 0 (fed_text reader p (take read (remaining bytes n)))
    → written ≤ length after → Fit l → next ≡ after_part l.over (n + read) (length bytes)
    → Part p line bytes n before after (record { lister = l; written = written; next = next })
unfolding fed_part
part_fed p bytes before after line n read written l next h a s c b w f e =
    let d = remaining_drop bytes n in
    let count : read ≡ fed_count reader p (length before) (drop n bytes) = a ∙ ap (fed_count reader p (length before)) d in
    let same : take read (remaining bytes n) ≡ fed_part reader p (length before) bytes n = ap (take read) d ∙ ap (λ k. take k (drop n bytes)) count in
    record {
      state = s ∙ ap (fed reader p) same;
      count = c ∙ ap (λ t. length (fed_text reader p t)) same;
      buffer = b ∙ ap (λ t. put before 0 (fed_text reader p t)) same;
      next = e ∙ ap (λ k. after_part l.over (n + k) (length bytes)) count;
      room = w;
      fit = f;
    }

-- a round by its case
module _ (l : Lister) (line line' : Kept) (chunk before after : List ℕ) (n : ℕ) (r : Round) where
  -- what the round leaves where the read gave so much
  abbrev pub Leaves : Result ℕ ℤ → Type 0
  Leaves got = RoundOf got l line line' chunk n before after r

  pub round_failed : (got : Result ℕ ℤ) (error : ℤ) → got ≡ Err error → Unfed l line line' [] before after (after_failure error) r → Leaves got
  round_failed got error e h = subst Leaves (sym e) h

  -- WHAT EVERY ROUND LEAVES: a lister that goes on, text within the buffer, and a place within the bytes that the read gave
  pub round_fits : (got : Result ℕ ℤ) → given got ≤ length chunk → n ≤ given got → Leaves got
      → Fit r.lister × (r.written ≤ length after) × (rest_place r.next ≤ given got)
  unfolding given rest_place
  round_fits (Err error) g h t = (t.fit, t.room, omega (arith, h, ap rest_place t.then, failed_place error))
  round_fits (Ok zero) g h t = (t.fit, t.room, omega (arith, ap rest_place t.then))
  round_fits (Ok (suc k)) g h t =
      let bytes = take (suc k) chunk in
      let p = progress l (kept_bytes line) in
      let size : length bytes ≡ suc k = length-take-le (suc k) chunk g in
      let count = fed_count reader p (length before) (drop n bytes) in
      let read : n + count ≤ length bytes = omega (arith, count_le reader p (length before) (drop n bytes), length-drop n bytes, size, h) in
      (t.fit, t.room, omega (arith, ap rest_place t.next, part_place r.lister.over (n + count) (length bytes) read, size))
