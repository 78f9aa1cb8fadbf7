-- A listing's session is sound, and a slot or a miss ends the reading, with `over`, exactly after 65,536 slots. Assumes nothing.
use Prim.Native.Nat.{ℕ, zero, suc}
use mathlib.Core.Path.{◌≡◌, refl, subst, ◌∙◌}
use mathlib.Core.Bool.{Bool, true, false, not, cond, false≢true}
use mathlib.Core.List.{List}
use native.Mathlib.Omega.{arith}
use borrow.Author.Tests.{eqb-true, lt-ltb}
use lib.Dec.{eqb, ltb}
use lib.ListN.{length}
use Rattle.code_theory.specs.Nearest.{is_readable}
use Rattle.code_theory.specs.Question.{ask, is_alphabet, is_variables, is_message_size, is_word_size, all_below, after}
use Rattle.code_theory.proofs.QuestionLaws.{below_all}
use Rattle.session_slot.specs.Slot.{slots, slot_time}
use Rattle.session_receiver.specs.Receiving.{is_below, is_missing, sound_receiver, receive_refusal, receive_constant, receive_session, after_receive, next_receiver, miss_refusal, miss_session}
use Rattle.std.proofs.Common.{Some, None}
use Rattle.session_receiver.specs.declared.Receiver.{Receiver}
use Rattle.session_receiver.proofs.SoundLaws.{receive_yes, receive_doubtful, miss_yes, constant_below, receiver_next}
use Rattle.text_lines.specs.Line.{Line, slot, miss, bad, is_slot, word_of}
use Rattle.text_lines.proofs.LineLaws.{slot_size, slot_digits, digit_at, word_at, word_length}
use Rattle.list_line.specs.Listing.{doubtful_text, missed_text, over_text, blank, delivery_text, line_text, line_session, line_ends, opened}
use Rattle.list_line.proofs.SlotLaws.{told_bad}

-- the session that is opened is sound, and each line leaves a sound one
pub sound_opened : sound_receiver opened ≡ true
unfolding opened sound_receiver is_alphabet is_variables is_below is_missing
sound_opened = refl

pub sound_line : (s : Receiver) (line : Line) → sound_receiver s ≡ true → sound_receiver (line_session s line) ≡ true
unfolding line_session receive_session miss_session after_receive after is_below
sound_line s (slot w) e = by (eqb (receive_refusal s blank w) 9) refl (receive_refusal s blank w) refl
  where
    by : (t : Bool) → eqb (receive_refusal s blank w) 9 ≡ t → (n : ℕ) → receive_refusal s blank w ≡ n
        → sound_receiver (cond t (next_receiver s None) (after n (next_receiver s (Some (receive_constant s.q s.m w))) s)) ≡ true
    by true f n g = receiver_next s None (receive_doubtful s blank w (eqb-true _ 9 f)).0 refl
    by false f zero g =
        let y = receive_yes s blank w g in
        receiver_next s (Some (receive_constant s.q s.m w)) y.0 (lt-ltb _ _ (constant_below s.q s.m w y.1))
    by false f (suc n) g = e
sound_line s miss e = by (miss_refusal s) refl
  where
    by : (n : ℕ) → miss_refusal s ≡ n → sound_receiver (after n (next_receiver s None) s) ≡ true
    by zero g = receiver_next s None (miss_yes s g) refl
    by (suc n) g = e
sound_line s bad e = subst (λ r. sound_receiver r ≡ true) (told_bad s).session e

-- the word of a slot line has 16 symbols below 4
word_symbols : (line : List ℕ) → is_slot line ≡ true → (length (word_of line) ≡ 16) × (all_below 4 (word_of line) ≡ true)
word_symbols line e =
    let n = word_length line in
    let k = slot_size line e in
    (n ∙ k, below_all 4 (word_of line) (λ i h. omega (arith, word_at line i, (digit_at line (slot_digits line e) i (omega (arith, n))).1)))

-- a slot line ends the reading exactly where 65,536 slots are used
pub slot_over : (s : Receiver) (line : List ℕ) → sound_receiver s ≡ true → s.q ≡ 4 → s.m ≡ 4 → is_slot line ≡ true
    → line_ends s (slot (word_of line)) ≡ not (ltb s.used slots)
unfolding line_ends receive_refusal after_receive after ask is_message_size is_word_size blank
slot_over s line e q m l =
    let (size, below) = word_symbols line l in
    rw (e, m, q, below, size) (by (ltb s.used slots) (is_readable 4 4 (word_of line)))
  where
    by : (a b : Bool) → after_receive (ask a 4 (ask b 9 0)) false false true ≡ not a
    by true true = refl
    by true false = refl
    by false b = refl

-- and so does a miss
pub miss_over : (s : Receiver) → sound_receiver s ≡ true → line_ends s miss ≡ not (ltb s.used slots)
unfolding line_ends miss_refusal after ask
miss_over s e = rw e (by (ltb s.used slots))
  where
    by : (a : Bool) → after (ask a 4 0) false true ≡ not a
    by true = refl
    by false = refl

-- a line that ends the reading prints `over`
pub ends_over : (s : Receiver) (line : Line) → line_ends s line ≡ true → line_text s line ≡ over_text
unfolding line_ends line_text after_receive after
ends_over s (slot w) e = by (eqb (receive_refusal s blank w) 9) (receive_refusal s blank w) e
  where
    by : (t : Bool) (n : ℕ) → cond t false (after n false true) ≡ true → cond t (doubtful_text (slot_time s.used)) (after n (delivery_text s w) over_text) ≡ over_text
    by true n e = absurd (false≢true e)
    by false zero e = absurd (false≢true e)
    by false (suc n) e = refl
ends_over s miss e = by (miss_refusal s) e
  where
    by : (n : ℕ) → after n false true ≡ true → after n (missed_text (slot_time s.used)) over_text ≡ over_text
    by zero e = absurd (false≢true e)
    by (suc n) e = refl
ends_over s bad e = absurd (false≢true e)
