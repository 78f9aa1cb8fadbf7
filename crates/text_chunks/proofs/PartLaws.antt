-- What the code does with the bytes up to the end of a line, and with one such part after the other. Assumes nothing.
use Prim.Native.Nat.{ℕ, suc, ◌+◌, ◌-◌, ◌≤◌, ◌<◌}
use mathlib.Core.Path.{◌≡◌, refl, ap, ap₂, sym, ◌∙◌, subst}
use mathlib.Core.Bool.{Bool, true, false, cond}
use mathlib.Core.List.{List, [], ◌∷◌, ◌++◌}
use native.Mathlib.Nat.{add-zero}
use native.Mathlib.Numerals.{add-one}
use native.Mathlib.Omega.{arith}
use borrow.Author.Tests.{eqb-false}
use lib.Dec.{eqb}
use lib.ListN.{length, take, drop, length-append, length-drop, take-append-drop}
use lib.Seq.{length-take-le, take-suc, take_all, take-add}
use Rattle.text_buffer.proofs.PutLaws.{put_none, put_fits, Written, written_as, written_then}
use Rattle.text_lines.specs.Line.{Line, read_line}
use Rattle.text_lines.specs.Internal.{line_length}
use Rattle.text_lines.proofs.EndingLaws.{line_step, line_newline}
use Rattle.text_chunks.specs.Chunks.{Reader, Progress, longer, ended, step, step_text, fed, fed_text, fed_count}
use Rattle.text_chunks.specs.Internal.{keep_all, within, Took}
use Rattle.text_chunks.proofs.ChunkLaws.{fed_append, text_append, fed_next, text_next}
use Rattle.text_chunks.proofs.StepLaws.{step_end, text_end, step_keep, text_keep}
use Rattle.text_chunks.proofs.CountLaws.{count_next, count_append, count_within}

-- what is left of a chunk behind its first i bytes
unfoldable pub remaining : List ℕ → ℕ → List ℕ
remaining chunk i = take (length chunk - i) (drop i chunk)

pub remaining_drop : (chunk : List ℕ) (i : ℕ) → remaining chunk i ≡ drop i chunk
unfolding remaining
remaining_drop chunk i = take_all (length chunk - i) (drop i chunk) (omega (arith, length-drop i chunk))

pub remaining_length : (chunk : List ℕ) (i : ℕ) → length (remaining chunk i) ≡ length chunk - i
remaining_length chunk i = ap length (remaining_drop chunk i) ∙ length-drop i chunk

module _ {S : Type 0} (R : Reader S) where
  -- the bytes before the first newline are kept, and bring no text
  pub fed_within : (p : Progress S) (bytes : List ℕ) → p.over ≡ false → fed R p (take (line_length bytes) bytes) ≡ within p (take (line_length bytes) bytes)
  unfolding fed within keep_all longer line_length
  fed_within p [] o = refl
  fed_within p (b ∷ bytes) o =
      subst (λ n. fed R p (take n (b ∷ bytes)) ≡ within p (take n (b ∷ bytes))) (sym (line_step b bytes))
      (by (eqb b 10) refl (fed_within (longer p b) bytes o))
    where
      by : (t : Bool) → eqb b 10 ≡ t
          → fed R (longer p b) (take (line_length bytes) bytes)
          ≡ within (longer p b) (take (line_length bytes) bytes)
          → fed R p (take (cond t 0 (suc (line_length bytes))) (b ∷ bytes)) ≡ within p (take (cond t 0 (suc (line_length bytes))) (b ∷ bytes))
      by true e more = refl
      by false e more = ap (λ q. fed R q (take (line_length bytes) bytes)) (step_keep R p b o (eqb-false b 10 e)) ∙ more

  pub text_within : (p : Progress S) (bytes : List ℕ) → p.over ≡ false → fed_text R p (take (line_length bytes) bytes) ≡ []
  unfolding fed_text longer line_length
  text_within p [] o = refl
  text_within p (b ∷ bytes) o =
      subst (λ n. fed_text R p (take n (b ∷ bytes)) ≡ []) (sym (line_step b bytes))
      (by (eqb b 10) refl (text_within (longer p b) bytes o))
    where
      by : (t : Bool) → eqb b 10 ≡ t → fed_text R (longer p b) (take (line_length bytes) bytes) ≡ []
          → fed_text R p (take (cond t 0 (suc (line_length bytes))) (b ∷ bytes)) ≡ []
      by true e more = refl
      by false e more =
          ap (λ l. l ++ fed_text R (step R p b) (take (line_length bytes) bytes)) (text_keep R p b o (eqb-false b 10 e))
          ∙ ap (λ q. fed_text R q (take (line_length bytes) bytes)) (step_keep R p b o (eqb-false b 10 e)) ∙ more

  -- with the newline behind them they are a line
  module _ (p : Progress S) (bytes : List ℕ) (o : p.over ≡ false) (h : line_length bytes < length bytes) where
    newline : take (line_length bytes + 1) bytes ≡ take (line_length bytes) bytes ++ (10 ∷ [])
    newline =
        ap (λ k. take k bytes) (add-one (line_length bytes)) ∙ take-suc bytes (line_length bytes) 0 h
        ∙ ap (λ b. take (line_length bytes) bytes ++ (b ∷ [])) (line_newline bytes h)

    pub fed_line : fed R p (take (line_length bytes + 1) bytes) ≡ ended R (within p (take (line_length bytes) bytes))
    unfolding within
    fed_line =
        ap (fed R p) newline ∙ fed_next R p (take (line_length bytes) bytes) 10
        ∙ ap (λ q. step R q 10) (fed_within p bytes o) ∙ step_end R (within p (take (line_length bytes) bytes)) 10 o refl

    pub text_line : fed_text R p (take (line_length bytes + 1) bytes) ≡ R.text p.state (read_line (keep_all p.part (take (line_length bytes) bytes)))
    unfolding within
    text_line =
        ap (fed_text R p) newline ∙ text_next R p (take (line_length bytes) bytes) 10
        ∙ ap (λ l. l ++ step_text R (fed R p (take (line_length bytes) bytes)) 10) (text_within p bytes o)
        ∙ ap (λ q. step_text R q 10) (fed_within p bytes o) ∙ text_end R (within p (take (line_length bytes) bytes)) 10 o refl

    pub count_line : (left : ℕ) → R.room ≤ left → fed_count R p left (take (line_length bytes + 1) bytes) ≡ line_length bytes + 1
    unfolding fed_count within
    count_line left g =
        let line = take (line_length bytes) bytes in
        let n : length line ≡ line_length bytes = length-take-le (line_length bytes) bytes (omega (arith, h)) in
        let here = ap (λ q. q.over) (fed_within p bytes o) ∙ o in
        let rest : R.room ≤ left - length (fed_text R p line) = omega (arith, g, ap length (text_within p bytes o)) in
        ap (fed_count R p left) newline ∙ count_append R p left line (10 ∷ []) (count_within R p left bytes o g ∙ sym n)
        ∙ ap (λ k. length line + k) (count_next R (fed R p line) _ 10 [] here rest) ∙ ap (λ k. k + 1) n

  -- what the code does with the bytes up to the end of a line, where there is room for its text
  module _ (p : Progress S) (bytes before : List ℕ) (place : ℕ) (o : p.over ≡ false) (room : place + R.room ≤ length before) where
    -- a whole line
    pub took_line : (x : Line) (s : S) (over : Bool) (next read : ℕ) (out : List ℕ) → read ≡ line_length bytes + 1 → line_length bytes < length bytes
        → read_line (keep_all p.part (take (line_length bytes) bytes)) ≡ x → s ≡ R.next p.state x → over ≡ R.ends p.state x
        → Written before place (R.text p.state x) next out → Took R p bytes before place (record { state = s; part = []; over = over }) next read out
    unfolding ended within
    took_line x s over next read out n h e f g w =
        let text = ap (R.text p.state) (sym e) ∙ sym (text_line p bytes o h) ∙ ap (λ i. fed_text R p (take i bytes)) (sym n) in
        let v = written_as text w in
        let line = read_line (keep_all p.part (take (line_length bytes) bytes)) in
        let a : s ≡ R.next p.state line = f ∙ ap (R.next p.state) (sym e) in
        let b : over ≡ R.ends p.state line = g ∙ ap (R.ends p.state) (sym e) in
        let same : ◌≡◌ {A = Progress S} (record { state = s; part = []; over = over }) (ended R (within p (take (line_length bytes) bytes))) =
        ap₂ (λ u t. record { state = u; part = []; over = t }) a b in
        let all = count_line p bytes o h (length before - place) (omega (arith, room)) in
        record {
          state = same ∙ sym (fed_line p bytes o h) ∙ ap (λ i. fed R p (take i bytes)) (sym n);
          next = v.place;
          buffer = v.buffer;
          all = ap (λ i. fed_count R p (length before - place) (take i bytes)) n ∙ all ∙ sym n;
          some = omega (arith, n);
          bound = omega (arith, n, h);
        }

    -- bytes with no newline, which are kept
    pub took_part : (part : List ℕ) (n : ℕ) → n ≡ line_length bytes → n ≡ length bytes → 0 < length bytes → part ≡ keep_all p.part (take n bytes)
        → Took R p bytes before place (record { state = p.state; part = part; over = p.over }) place n before
    unfolding within
    took_part part n a b some e =
        let none = sym (text_within p bytes o) ∙ ap (λ i. fed_text R p (take i bytes)) (sym a) in
        let v = written_as {b = before} {at = place} none (record { place = sym (add-zero place); buffer = sym (put_none before place) }) in
        let kept = e ∙ ap (λ i. keep_all p.part (take i bytes)) a in
        let all = count_within R p (length before - place) bytes o (omega (arith, room)) in
        record {
          state = ap (λ l. record { state = p.state; part = l; over = p.over }) kept ∙ sym (fed_within p bytes o) ∙ ap (λ i. fed R p (take i bytes)) (sym a);
          next = v.place;
          buffer = v.buffer;
          all = ap (λ i. fed_count R p (length before - place) (take i bytes)) a ∙ all ∙ sym a;
          some = omega (arith, b, some);
          bound = omega (arith, b);
        }

  -- the bytes read so far, from the progress p and the buffer b on
  pub record Run (p : Progress S) (b bytes : List ℕ) (now : Progress S) (place : ℕ) (out : List ℕ) : Type 0 where
    pub state : now ≡ fed R p bytes
    pub text : Written b 0 (fed_text R p bytes) place out
    pub all : fed_count R p (length b) bytes ≡ length bytes
    pub room : place ≤ length b
    pub size : length out ≡ length b

  pub run_none : (p : Progress S) (b : List ℕ) → Run p b [] p 0 b
  unfolding fed fed_text fed_count
  run_none p b = record { state = refl; text = record { place = refl; buffer = sym (put_none b 0) }; all = refl; room = omega arith; size = refl }

  -- where no byte more is read, those were all
  pub run_done : (p : Progress S) (b chunk : List ℕ) (i : ℕ) (now : Progress S) (place : ℕ) (out : List ℕ) → i ≤ length chunk → Run p b (take i chunk) now place out
      → fed_count R now (length b - place) (drop i chunk) ≡ 0 → i ≡ fed_count R p (length b) chunk
  run_done p b chunk i now place out h run e =
      let n : length (take i chunk) ≡ i = length-take-le i chunk h in
      let left : length b - length (fed_text R p (take i chunk)) ≡ length b - place = omega (arith, run.text.place) in
      let none : fed_count R (fed R p (take i chunk)) (length b - length (fed_text R p (take i chunk))) (drop i chunk) ≡ 0 =
      ap (λ q. fed_count R q (length b - length (fed_text R p (take i chunk))) (drop i chunk)) (sym run.state) ∙ ap (λ k. fed_count R now k (drop i chunk)) left ∙ e
      in
      let all = count_append R p (length b) (take i chunk) (drop i chunk) run.all in
      sym (ap (fed_count R p (length b)) (sym (take-append-drop i chunk)) ∙ all ∙ omega (arith, n, none))

  -- and those of a part more
  pub run_more : (p : Progress S) (b chunk : List ℕ) (i : ℕ) (now : Progress S) (place : ℕ) (out : List ℕ) (q : Progress S) (next read : ℕ) (new : List ℕ)
      → Run p b (take i chunk) now place out → Took R now (remaining chunk i) out place q next read new → length new ≡ length out
      → Run p b (take (i + read) chunk) q next new
  run_more p b chunk i now place out q next read new run w l =
      let part = take read (remaining chunk i) in
      let more : take i chunk ++ part ≡ take (i + read) chunk = ap (λ t. take i chunk ++ take read t) (remaining_drop chunk i) ∙ sym (take-add i read chunk) in
      let fits = put_fits out place (fed_text R now part) (omega (arith, run.room, run.size)) (ap length (sym w.buffer) ∙ l) in
      let n : length part ≡ read = length-take-le read (remaining chunk i) w.bound in
      let left : length b - length (fed_text R p (take i chunk)) ≡ length out - place = omega (arith, run.text.place, run.size) in
      let counted : fed_count R (fed R p (take i chunk)) (length b - length (fed_text R p (take i chunk))) part ≡ length part =
      ap (λ u. fed_count R u (length b - length (fed_text R p (take i chunk))) part) (sym run.state) ∙ ap (λ k. fed_count R now k part) left ∙ w.all ∙ sym n
      in
      record {
        state = w.state ∙ ap (λ u. fed R u part) run.state ∙ sym (fed_append R p (take i chunk) part) ∙ ap (fed R p) more;
        text =
            written_as (ap (λ u. fed_text R p (take i chunk) ++ fed_text R u part) run.state ∙ sym (text_append R p (take i chunk) part) ∙ ap (fed_text R p) more)
            (written_then b 0 (fed_text R p (take i chunk)) (fed_text R now part) place next out new (omega (arith, fits, run.size, run.text.place)) run.text
            (record { place = w.next; buffer = w.buffer }));
        all =
            ap (fed_count R p (length b)) (sym more) ∙ count_append R p (length b) (take i chunk) part run.all ∙ ap (λ k. length (take i chunk) + k) counted
            ∙ sym (length-append (take i chunk) part) ∙ ap length more;
        room = omega (arith, w.next, fits, run.size);
        size = l ∙ run.size;
      }
