-- Chunk after chunk, the output is the listing of the whole input; what the code does with a line. Assumes nothing.
use Prim.Native.Nat.{ℕ, ◌+◌, ◌≤◌, ◌<◌}
use mathlib.Core.Path.{◌≡◌, refl, ap, sym, ◌∙◌, subst}
use mathlib.Core.Bool.{false, cond}
use mathlib.Core.List.{List, [], ◌∷◌, ◌++◌, append-nil}
use native.Mathlib.Omega.{arith}
use lib.ListN.{length, take}
use Rattle.text_buffer.proofs.PutLaws.{Written}
use Rattle.std.specs.Result.{result_unwrap_or}
use Rattle.std.proofs.Common.{Result, Ok, Err}
use Rattle.code_questions.specs.declared.Refusal.{Refusal}
use Rattle.session_receiver.specs.declared.Receiver.{Receiver}
use Rattle.session_receiver.specs.Receiving.{new_receiver, open_receiver, opened_receiver}
use Rattle.session_receiver.proofs.SoundLaws.{receiver_opened_lem}
use Rattle.session_receiver.proofs.AfterLaws.{SameCode, receive_code, miss_code}
use Rattle.text_lines.specs.Line.{Line, slot, miss, bad, lines_from, read_line}
use Rattle.text_lines.specs.Internal.{line_length}
use Rattle.text_chunks.specs.Chunks.{Progress, joined, chunks_text, end_text}
use Rattle.text_chunks.specs.Internal.{keep_all, told, Took}
use Rattle.text_chunks.proofs.ChunkLaws.{chunks_told}
use Rattle.text_chunks.proofs.StepLaws.{last_some, end_last}
use Rattle.text_chunks.proofs.PartLaws.{took_line, took_part}
use Rattle.list_line.specs.Listing.{header, blank, line_text, line_session, line_ends, listed, listing, opened}
use Rattle.list_line.specs.declared.Listed.{Listed}
use Rattle.list_stream.specs.Stream.{reader, begun, progress, Fit}
use Rattle.list_stream.specs.Internal.{Ended, Goes, Reads}
use Rattle.list_stream.specs.declared.Lister.{Lister}
use Rattle.list_stream.specs.declared.Step.{Step}

-- the session that is opened: q = 4, m = 4 are not refused
pub start_opened : (r : Result Receiver Refusal) → opened_receiver r ≡ open_receiver 4 4 → result_unwrap_or r (new_receiver 4 4) ≡ opened
unfolding opened opened_receiver
start_opened (Ok s) e = sym (receiver_opened_lem 4 4 s (sym e)).2
start_opened (Err r) e = refl

-- the lines of an input tell what the program lists
told_listed : (s : Receiver) (lines : List (List ℕ)) → told reader s lines ≡ listed s lines
unfolding told listed
told_listed s [] = refl
told_listed s (line ∷ lines) =
    let l = read_line line in
    ap (λ t. line_text s l ++ cond (line_ends s l) [] t) (told_listed (line_session s l) lines)

-- the header and the texts of all chunks are the listing of the whole input, however it is cut
pub chunks_listing : (chunks : List (List ℕ)) → header ++ chunks_text reader begun chunks ≡ listing (joined chunks)
unfolding listing begun
chunks_listing chunks = ap (λ l. header ++ l) (chunks_told reader opened chunks ∙ told_listed opened (lines_from [] (joined chunks)))

-- a list that is not empty has a length
pub length_some : (xs : List ℕ) → (xs ≡ [] → ⊥) → 0 < length xs
length_some [] d = absurd (d refl)
length_some (x ∷ xs) d = omega arith

-- the text of a last line that lacks its newline
pub end_line : (p : Progress Receiver) → p.over ≡ false → 0 < length p.part → end_text reader p ≡ line_text p.state (read_line p.part)
end_line p o h = end_last reader p o ∙ last_some reader p.state p.part h ∙ append-nil _

-- a line leaves the session's code as it was
line_code : (s : Receiver) (line : Line) → SameCode s (line_session s line)
unfolding line_session
line_code s (slot w) = receive_code s blank w
line_code s miss = miss_code s
line_code s bad = (refl, refl)

-- a line leaves q = 4, m = 4
pub line_fit : (l : Lister) (x : Line) (next : Receiver) → Fit l → next ≡ line_session l.receiver x → (next.q ≡ 4) × (next.m ≡ 4)
line_fit l x next f e =
    let code = line_code l.receiver x in
    (ap (λ t. t.q) e ∙ code.0 ∙ f.alphabet, ap (λ t. t.m) e ∙ code.1 ∙ f.variables)

module _ (l : Lister) (line bytes before : List ℕ) (place : ℕ) (g : Goes l bytes before place) where
  -- a line that is listed
  pub reads_line : (x : Line) (one : Listed) (read : ℕ) (r : Step) (rest out : List ℕ) → rest ≡ [] → read ≡ line_length bytes + 1
      → line_length bytes < length bytes → read_line (keep_all line (take (line_length bytes) bytes)) ≡ x
      → one.receiver ≡ line_session l.receiver x → one.over ≡ line_ends l.receiver x
      → Written before place (line_text l.receiver x) one.next out → Ended one read r → Reads (progress l line) bytes before place r rest out
  unfolding progress
  reads_line x one read r rest out b n h e s o w d =
      let next = d.receiver ∙ s in
      let code = line_fit l x r.lister.receiver g.fit next in
      let written : Written before place (line_text l.receiver x) r.next out = record { place = d.next ∙ w.place; buffer = w.buffer } in
      let p = progress l line in
      let q : List ℕ → Progress Receiver = λ part. record { state = r.lister.receiver; part = part; over = r.lister.over } in
      let took : Took reader p bytes before place (q []) r.next r.read out =
      took_line reader p bytes before place g.on g.room x _ _ r.next r.read out (d.read ∙ n) h e next (d.over ∙ o) written in
      record {
        took = subst (λ part. Took reader p bytes before place (q part) r.next r.read out) (sym b) took;
        fit = record { alphabet = code.0; variables = code.1 };
      }

  -- bytes with no newline, which are kept
  pub reads_part : (rest : List ℕ) (n : ℕ) → n ≡ line_length bytes → n ≡ length bytes → rest ≡ keep_all line (take n bytes)
      → Reads (progress l line) bytes before place (record { lister = l; next = place; read = n }) rest before
  unfolding progress
  reads_part rest n a b e = record {
    took = took_part reader (progress l line) bytes before place g.on g.room rest n a b g.some e;
    fit = g.fit;
  }
