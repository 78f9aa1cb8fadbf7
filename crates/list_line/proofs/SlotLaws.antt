-- What the answers of Receive and Miss tell of a slot. Assumes nothing.
use Prim.Native.Nat.{ℕ, suc, ◌+◌, ◌<◌}
use mathlib.Core.Path.{◌≡◌, refl, ap, ap₂, sym, subst, ◌∙◌}
use mathlib.Core.Logic.{◌≢◌}
use mathlib.Core.Bool.{Bool, true, false}
use mathlib.Core.List.{List, []}
use native.Mathlib.Nat.{mod-lt}
use native.Mathlib.Omega.{arith}
use lib.ListN.{length}
use Rattle.code_theory.specs.Sum.{at}
use Rattle.code_theory.specs.Code.{Symbols}
use Rattle.code_theory.specs.Modular.{sub_mod}
use Rattle.code_theory.specs.Nearest.{near_message}
use Rattle.code_theory.specs.Question.{ask}
use Rattle.code_theory.proofs.NearestLaws.{read_symbols}
use Rattle.code_theory.proofs.TurnLaws.{constant_set}
use Rattle.code_theory.proofs.QuestionLaws.{message_yes, below_all, after_yes, after_no, answer_accepted, answer_refused}
use Rattle.strap.specs.Strap.{rate_of, unpack_refusal}
use Rattle.text_buffer.specs.Text.{put}
use Rattle.text_buffer.proofs.PutLaws.{Written, written_as}
use Rattle.session_receiver.specs.Receiving.{receive_refusal, receive_constant, zone_from, zone_symbol, receive_delivery, delivery_values, receive_answer, receive_message, receive_session, next_receiver, received, received_values, received_session, miss_refusal, miss_answer, miss_session, missed_session}
use Rattle.std.proofs.Common.{Option, Some, None, Result, Ok, Err}
use Rattle.code_questions.specs.declared.Refusal.{Refusal}
use Rattle.code_questions.specs.Refusal.{number, answered, no_values}
use Rattle.code_questions.proofs.RefusalLaws.{answered_ok, answered_err}
use Rattle.session_receiver.specs.declared.Delivery.{Delivery}
use Rattle.session_receiver.specs.declared.Receiver.{Receiver}
use Rattle.session_receiver.specs.declared.Received.{Received}
use Rattle.session_slot.specs.Slot.{slots, slot_time}
use Rattle.text_lines.specs.Line.{Line, slot, miss, bad}
use Rattle.list_line.specs.Listing.{reading_text, doubtful_text, missed_text, over_text, bad_text, blank, delivery_text, line_text, line_session, line_ends}
use Rattle.session_receiver.proofs.AfterLaws.{after_read, after_doubtful, after_refused}
use Rattle.session_receiver.proofs.DeliveryLaws.{delivery_told}
use Rattle.session_receiver.proofs.SoundLaws.{receive_yes, receive_doubtful, miss_yes}

-- the message that Receive leaves can be unpacked
zone_below : (q : ℕ) (reference : Option ℕ) (constant : ℕ) → 0 < q → zone_symbol (zone_from q reference constant) < q
unfolding zone_from zone_symbol sub_mod
zone_below q (Some r) constant h = mod-lt _ {m = q} h
zone_below q None constant h = h

symbols_unpack : (q m : ℕ) (t : List ℕ) → q ≡ 4 → m ≡ 4 → Symbols q (suc m) t → unpack_refusal t ≡ 0
unfolding unpack_refusal ask
symbols_unpack q m t d e y =
    let size : length t ≡ 5 = omega (arith, y.size) in
    rw (message_yes 4 t size, below_all 4 t (λ i l. omega (arith, y.below i (omega arith))))

pub unpacks : (s : Receiver) (m w : List ℕ) → s.q ≡ 4 → s.m ≡ 4 → receive_refusal s m w ≡ 0 → unpack_refusal (receive_message s m w) ≡ 0
unfolding receive_message receive_delivery
unpacks s m w q o n =
    let y = read_symbols s.q s.m w (receive_yes s m w n).1 in
    let z = zone_below s.q s.reference (receive_constant s.q s.m w) (omega arith) in
    let f = constant_set s.q s.m _ (near_message s.q s.m w) z y in
    ap unpack_refusal (after_yes (receive_refusal s m w) _ m n)
    ∙ symbols_unpack s.q s.m _ q o f

-- what a line leaves: the session, whether it ends the reading, and its text
pub record Told (s : Receiver) (line : Line) (next : Receiver) (ends : Bool) (text : List ℕ) : Type 0 where
  pub session : next ≡ line_session s line
  pub over : ends ≡ line_ends s line
  pub printed : text ≡ line_text s line

-- the cases of Receive's answer, with the message slice blank before it
module _ (s : Receiver) (m w : List ℕ) (x : Result Received Refusal) (e : m ≡ blank) (answers : received x ≡ receive_answer s m w)
    (leaves : received_session s x ≡ receive_session s m w) where
  on_blank : (number : ℕ) → receive_refusal s m w ≡ number → receive_refusal s blank w ≡ number
  on_blank number n = ap (λ l. receive_refusal s l w) (sym e) ∙ n

  module _ (r : Received) (d : Delivery) (c : x ≡ Ok r) (f : r.delivery ≡ Some d) where
    read_told : (receive_refusal s m w ≡ 0) × (delivery_values d ≡ delivery_values (receive_delivery s w))
    unfolding received received_values receive_answer
    read_told = answer_accepted (receive_refusal s m w) _ _ (ap received_values (sym f) ∙ ap received (sym c) ∙ answers)

    pub read_number : receive_refusal s m w ≡ 0
    read_number = read_told.0

    pub told_read : (buffer : List ℕ) (rate : ℕ) → buffer ≡ receive_message s m w → rate ≡ rate_of buffer
        → Told s (slot w) r.receiver false (reading_text d.time rate d.zone d.wrong d.margin)
    unfolding received_session line_session line_ends line_text delivery_text
    told_read buffer rate b k =
        let n = on_blank 0 read_number in
        let same : d ≡ receive_delivery s w = delivery_told d (receive_delivery s w) read_told.1 in
        record {
          session = ap (received_session s) (sym c) ∙ leaves ∙ ap (λ l. receive_session s l w) e;
          over = sym (after_read (receive_refusal s blank w) false false true n);
          printed =
              ap₂ (λ g n. reading_text g.time n g.zone g.wrong g.margin) same (k ∙ ap rate_of (b ∙ ap (λ l. receive_message s l w) e))
              ∙ sym (after_read (receive_refusal s blank w) _ _ _ n);
        }

  module _ (r : Received) (c : x ≡ Ok r) (f : r.delivery ≡ None) where
    pub doubtful_number : receive_refusal s m w ≡ 9
    unfolding received received_values receive_answer
    doubtful_number = sym (answer_refused (receive_refusal s m w) 9 _ (ap received_values (sym f) ∙ ap received (sym c) ∙ answers)).0

    pub told_doubtful : Told s (slot w) r.receiver false (doubtful_text (slot_time s.used))
    unfolding received_session line_session line_ends line_text
    told_doubtful =
        let n = on_blank 9 doubtful_number in
        record {
          session = ap (received_session s) (sym c) ∙ leaves ∙ ap (λ l. receive_session s l w) e;
          over = sym (after_doubtful (receive_refusal s blank w) false false true n);
          printed = sym (after_doubtful (receive_refusal s blank w) _ _ _ n);
        }

  module _ (r : Refusal) (c : x ≡ Err r) where
    left : s ≡ receive_session s m w
    unfolding received_session
    left = ap (received_session s) (sym c) ∙ leaves

    over_number : (number r ≡ receive_refusal s m w) × (receive_refusal s m w ≢ 0)
    unfolding received received_values receive_answer
    over_number = answer_refused (receive_refusal s m w) (number r) _ (ap received (sym c) ∙ answers)

    -- a doubtful slot is used, so it is not told by a number
    not_doubtful : receive_refusal s m w ≢ 9
    unfolding receive_session next_receiver
    not_doubtful n =
        let u : s.used ≡ s.used + 1 = ap (λ t. t.used) (left ∙ after_doubtful (receive_refusal s m w) _ (next_receiver s None) s n) in
        omega arith

    pub told_over : Told s (slot w) s true over_text
    unfolding line_session line_ends line_text
    told_over =
        let n : receive_refusal s blank w ≢ 0 = λ z. over_number.1 (ap (λ l. receive_refusal s l w) e ∙ z) in
        let d : receive_refusal s blank w ≢ 9 = λ z. not_doubtful (ap (λ l. receive_refusal s l w) e ∙ z) in
        record {
          session = left ∙ ap (λ l. receive_session s l w) e;
          over = sym (after_refused (receive_refusal s blank w) false false true n d);
          printed = sym (after_refused (receive_refusal s blank w) _ _ over_text n d);
        }

-- the cases of Miss's answer
module _ (s : Receiver) (x : Result Receiver Refusal) (answers : answered no_values x ≡ miss_answer s) (leaves : missed_session s x ≡ miss_session s) where
  module _ (next : Receiver) (c : x ≡ Ok next) where
    pub missed_number : miss_refusal s ≡ 0
    unfolding miss_answer
    missed_number = (answered_ok no_values (miss_refusal s) [] next (ap (answered no_values) (sym c) ∙ answers)).0

    pub told_missed : Told s miss next false (missed_text (slot_time s.used))
    unfolding missed_session line_session line_ends line_text
    told_missed =
        record {
          session = ap (missed_session s) (sym c) ∙ leaves;
          over = sym (after_yes (miss_refusal s) _ _ missed_number);
          printed = sym (after_yes (miss_refusal s) _ over_text missed_number);
        }

  module _ (r : Refusal) (c : x ≡ Err r) where
    full : miss_refusal s ≢ 0
    unfolding miss_answer
    full = (answered_err no_values (miss_refusal s) [] r (ap (answered no_values) (sym c) ∙ answers)).1

    pub told_missed_over : Told s miss s true over_text
    unfolding missed_session line_session line_ends line_text
    told_missed_over =
        record {
          session = ap (missed_session s) (sym c) ∙ leaves;
          over = sym (after_no (miss_refusal s) false true full);
          printed = sym (after_no (miss_refusal s) _ over_text full);
        }

pub told_bad : (s : Receiver) → Told s bad s false bad_text
unfolding line_session line_ends line_text
told_bad s = record { session = refl; over = refl; printed = refl }

-- the slot of an answer that uses it is below the limit
pub doubtful_room : (s : Receiver) (m w : List ℕ) → receive_refusal s m w ≡ 9 → s.used < slots
doubtful_room s m w n = (receive_doubtful s m w n).0.room

pub missed_room : (s : Receiver) → miss_refusal s ≡ 0 → s.used < slots
missed_room s n = (miss_yes s n).room

-- a line that was told and printed, as the contracts say it
abbrev pub Printed : Receiver → Line → Receiver → Bool → List ℕ → ℕ → ℕ → List ℕ → Type 0
Printed s line next over b at end out =
    record {
      session : next ≡ line_session s line;
      ends : over ≡ line_ends s line;
      place : end ≡ at + length (line_text s line);
      buffer : out ≡ put b at (line_text s line);
    }

pub listed_as : (s : Receiver) (line : Line) (next : Receiver) (ends : Bool) (text b : List ℕ) (at end : ℕ) (out : List ℕ) → Told s line next ends text
    → Written b at text end out → Printed s line next ends b at end out
listed_as s line next ends text b at end out t w =
    let v = written_as t.printed w in
    record { session = t.session; ends = t.over; place = v.place; buffer = v.buffer }

-- the same line in other words
pub relisted : (s : Receiver) (line other : Line) (next : Receiver) (ends : Bool) (b : List ℕ) (at end : ℕ) (out : List ℕ) → line ≡ other
    → Printed s line next ends b at end out → Printed s other next ends b at end out
relisted s line other next ends b at end out e p = subst (λ l. Printed s l next ends b at end out) e p

-- and of the same session
pub of_session : (s t : Receiver) (line : Line) (next : Receiver) (ends : Bool) (b : List ℕ) (at end : ℕ) (out : List ℕ) → s ≡ t
    → Printed s line next ends b at end out → Printed t line next ends b at end out
of_session s t line next ends b at end out e p = subst (λ r. Printed r line next ends b at end out) e p
