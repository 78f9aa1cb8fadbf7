-- DEMAND 3: the theorem about two whole lists of calls. Assumes nothing.
use Prim.Native.Nat.{ℕ, zero, suc, ◌+◌, ◌*◌, ◌%◌, ◌^◌, ◌<◌}
use mathlib.Core.Path.{◌≡◌, refl, ap, ap₂, sym, subst, subst₂, ◌∙◌}
use mathlib.Core.Logic.{◌↔◌}
use mathlib.Core.Bool.{true, false, true≢false}
use mathlib.Core.List.{List, [], ◌∷◌}
use mathlib.Core.Option.{Option, none, some, some-injective, none-ne-some}
use Rattle.std.specs.Prelude.{Some, None}
use Rattle.std.specs.Prelude as std
use Rattle.std.proofs.lemmas.Option.{none-some}
use native.Mathlib.Nat.{zero-add}
use native.Mathlib.Omega.{arith}
use borrow.Author.Tests.{lt-ltb}
use lib.ListN.{length, set, get_elem?}
use lib.Seq.{get_or-set_same, get_or-set_other}
use Rattle.code_theory.specs.Sum.{at}
use Rattle.code_theory.specs.Modular.{sub_mod}
use Rattle.code_theory.specs.Code.{codeword, Symbols}
use Rattle.code_theory.specs.Near.{distance}
use Rattle.code_theory.specs.Turn.{altered}
use Rattle.code_theory.specs.Nearest.{nearest, is_readable, near_message, near_distance}
use Rattle.code_theory.specs.Question.{is_alphabet, is_variables}
use Rattle.code_theory.proofs.TurnLaws.{never_both, altered_set, nearest_turned, sub_mod_turned}
use Rattle.code_theory.proofs.NearestLaws.{readable, read_symbols}
use Rattle.session_sender.specs.declared.Sender.{Sender}
use Rattle.session_receiver.specs.declared.Receiver.{Receiver}
use Rattle.session_receiver.specs.declared.Delivery.{Delivery}
use Rattle.session_slot.specs.Slot.{slots, slot_time}
use Rattle.session_sender.specs.Sending.{new_sender, open_sender, send_refusal, send_constant}
use Rattle.session_receiver.specs.Receiving.{new_receiver, open_receiver, is_below, is_missing, receive_refusal, miss_refusal, receive_constant, zone_from, zone_symbol, receive_delivery, delivery_values, next_receiver}
use Rattle.code_theory.proofs.QuestionLaws.{alphabet_positive}
use Rattle.session_receiver.proofs.DeliveryLaws.{delivery_told}
use Rattle.session_receiver.proofs.SoundLaws.{receiver_opened_lem, receiver_sound}
use Rattle.session_sender.proofs.SoundLaws.{sender_opened_lem, sender_sound}
use Rattle.session_history_theory.specs.Calls.{Send, SenderSlot, sender_call, sender_slot, sender_slots, sender_after, ReceiverCall, ReceiverSlot, read, doubtful, missed, receiver_call, receiver_slot, receiver_slots, receiver_after}
use Rattle.session_history_theory.specs.Whole.{received_word, LightSlot, Accepted, NoReference, first, after_missed, after_doubtful, AnswersDeliveries, ZonesAfterRead, WholeSessions}
use Rattle.session_history_theory.proofs.Run.{before, before_next, Chain, chain, chain_made, chain_before, chain_end}
use Rattle.session_history_theory.proofs.SenderRun.{next_sender, SentBy, sender_step, SenderAt, sender_keep}
use Rattle.session_history_theory.proofs.ReceiverRun.{reference_after, next_slot, Heard, ReceivedBy, receiver_step, ReceiverAt, receiver_keep}
use Rattle.session_history_theory.proofs.FullLaws.{send_not_3, send_full, miss_not_3, miss_full, receive_not_3, receive_full}

-- the slot x was sent by a session of this q and m, with this last constant
pub record SentFrom (q m last : ℕ) (x : SenderSlot) : Type 0 where
  pub symbols : Symbols q (suc m) x.message
  pub word : x.word ≡ codeword q m (set x.message 0 ((last + at x.message 0) % q))

sent_from : (q m n : ℕ) (s : Sender) (x : SenderSlot) → SenderAt q m n s → SentBy s x → SentFrom q m s.last x
unfolding send_constant
sent_from q m n s x h b = record {
  symbols = subst₂ (λ a c. Symbols a (suc c) x.message) h.is_q h.is_m b.symbols;
  word = subst₂ (λ a c. x.word ≡ codeword a c (set x.message 0 ((s.last + at x.message 0) % a))) h.is_q h.is_m b.word;
}

-- the slot of this word was read by a session of this q and m, with this reference and so many slots used
pub record ReadFrom (q m : ℕ) (reference : std.Option ℕ) (used : ℕ) (y buffer : List ℕ) (delivery : Delivery) : Type 0 where
  pub readable : is_readable q m y ≡ true
  pub message : buffer ≡ set (near_message q m y) 0 (zone_symbol delivery.zone)
  pub zone : delivery.zone ≡ zone_from q reference (receive_constant q m y)
  pub wrong : delivery.wrong ≡ near_distance q m y
  pub time : delivery.time ≡ slot_time used

read_from : (q m n : ℕ) (s : Receiver) (word message : List ℕ) (delivery : Delivery) → ReceiverAt q m n s → Heard s (read word message (delivery_values delivery))
    → ReadFrom q m s.reference n word message delivery
unfolding receive_delivery
read_from q m n s word message delivery h (r, e, v) =
    let d : delivery ≡ receive_delivery s word = delivery_told delivery (receive_delivery s word) v in
    record {
      readable = subst₂ (λ a c. is_readable a c word ≡ true) h.is_q h.is_m r;
      message =
          subst₂ (λ a c. message ≡ set (near_message a c word) 0 (zone_symbol delivery.zone)) h.is_q h.is_m
          (e ∙ ap (λ x. set (near_message s.q s.m word) 0 (zone_symbol x.zone)) (sym d));
      zone = ap (λ x. x.zone) d ∙ ap₂ (λ a c. zone_from a s.reference (receive_constant a c word)) h.is_q h.is_m;
      wrong = ap (λ x. x.wrong) d ∙ ap₂ (λ a c. near_distance a c word) h.is_q h.is_m;
      time = ap (λ x. x.time) d ∙ ap slot_time h.used;
    }

-- what a slot read says in place 0
read_place : (q m : ℕ) (reference : std.Option ℕ) (used : ℕ) (word message : List ℕ) (delivery : Delivery) → ReadFrom q m reference used word message delivery
    → at message 0 ≡ zone_symbol delivery.zone
read_place q m reference used word message delivery f =
    ap (λ l. at l 0) f.message ∙ get_or-set_same (near_message q m word) 0 _ 0 (omega (arith, (read_symbols q m word f.readable).size))

-- a slot that stands before a slot
earlier : {A : Type 0} (xs : List A) (i : ℕ) (a : A) → get_elem? xs (suc i) ≡ some a → (b : A) × (get_elem? xs i ≡ some b)
earlier [] i a e = absurd (none-ne-some a e)
earlier (x ∷ xs) zero a e = (x, refl)
earlier (x ∷ xs) (suc i) a e = earlier xs i a e

module _ (q m t : ℕ) (hq : 0 < q) (x : SenderSlot) (last : ℕ) (f : SentFrom q m last x) (y : List ℕ) (light : 4 * altered q m t (at x.word) (at y) < 2 ^ m) where
  -- the constant that was sent, turned
  constant : ℕ
  constant = ((last + at x.message 0) % q + t) % q

  -- such a word reads as the message sent, its constant turned
  light_near : nearest q m y ≡ some (set x.message 0 constant)
  unfolding constant
  light_near = nearest_turned q m t _ hq x.message y f.symbols (subst (λ w. 4 * altered q m t (at w) (at y) < 2 ^ m) f.word light)

  light_readable : is_readable q m y ≡ true
  light_readable = (readable q m y _ light_near).0

  light_message : near_message q m y ≡ set x.message 0 constant
  light_message = (readable q m y _ light_near).1

  light_distance : near_distance q m y ≡ altered q m t (at x.word) (at y)
  unfolding constant near_distance
  light_distance =
      ap (λ l. distance q m (at l) (at y)) light_message ∙ sym (altered_set q m t _ x.message (at y) f.symbols) ∙ ap (λ w. altered q m t (at w) (at y)) (sym f.word)

  light_constant : receive_constant q m y ≡ constant
  unfolding receive_constant
  light_constant = ap (λ l. at l 0) light_message ∙ get_or-set_same x.message 0 constant 0 (omega (arith, f.symbols.size))

  light_coefficient : (k : ℕ) → at (near_message q m y) (suc k) ≡ at x.message (suc k)
  light_coefficient k = ap (λ l. at l (suc k)) light_message ∙ get_or-set_other x.message 0 (suc k) constant 0 (λ e. omega (arith, e))

module _ (q m : ℕ) (alphabet : is_alphabet q ≡ true) (variables : is_variables m ≡ true) (sends : List Send) where
  -- the slots of the strap, and the session before slot j
  abbrev strap : List SenderSlot
  strap = sender_slots (new_sender q m) sends

  abbrev sender_before : ℕ → Sender
  sender_before = before next_sender (new_sender q m) strap

  strap_chain : Chain sender_call sender_slot next_sender SentBy (new_sender q m) strap (sender_after (new_sender q m) sends)
  strap_chain = chain sender_call sender_slot next_sender SentBy sender_step (new_sender q m) sends

  new_sender_at : SenderAt q m 0 (new_sender q m)
  new_sender_at =
      record {
        is_q = refl;
        is_m = refl;
        used = refl;
        sound = sender_sound _ (record { alphabet = alphabet; variables = variables; below = lt-ltb 0 q (alphabet_positive q alphabet); used = omega arith; start = refl });
      }

  sender_at : (j : ℕ) (x : SenderSlot) → get_elem? strap j ≡ some x → SenderAt q m j (sender_before j)
  sender_at j x e = rw zero-add at (chain_before sender_call sender_slot next_sender SentBy (SenderAt q m) (sender_keep q m) 0 (new_sender q m) strap _ strap_chain new_sender_at j x e)

  sender_end : SenderAt q m (length strap) (sender_after (new_sender q m) sends)
  sender_end = rw zero-add at (chain_end sender_call sender_slot next_sender SentBy (SenderAt q m) (sender_keep q m) 0 (new_sender q m) strap _ strap_chain new_sender_at)

  strap_sent : (j : ℕ) (x : SenderSlot) → get_elem? strap j ≡ some x → SentFrom q m (sender_before j).last x
  strap_sent j x e = sent_from q m j (sender_before j) x (sender_at j x e) (chain_made sender_call sender_slot next_sender SentBy (new_sender q m) strap _ strap_chain j x e)

  -- a slot's constant is the last one before the next slot
  strap_last : (i : ℕ) (x : SenderSlot) → get_elem? strap i ≡ some x → (sender_before (suc i)).last ≡ ((sender_before i).last + at x.message 0) % q
  unfolding next_sender send_constant
  strap_last i x e =
      ap (λ s. s.last) (before_next next_sender (new_sender q m) strap i x e) ∙ ap (λ a. ((sender_before i).last + at x.message 0) % a) (sender_at i x e).is_q

module _ (q m : ℕ) (alphabet : is_alphabet q ≡ true) (variables : is_variables m ≡ true) (calls : List ReceiverCall) where
  -- the slots of the launch, and the session before slot j
  abbrev launch : List ReceiverSlot
  launch = receiver_slots (new_receiver q m) calls

  abbrev receiver_before : ℕ → Receiver
  receiver_before = before next_slot (new_receiver q m) launch

  launch_chain : Chain receiver_call receiver_slot next_slot ReceivedBy (new_receiver q m) launch (receiver_after (new_receiver q m) calls)
  launch_chain = chain receiver_call receiver_slot next_slot ReceivedBy receiver_step (new_receiver q m) calls

  new_receiver_at : ReceiverAt q m 0 (new_receiver q m)
  unfolding is_below is_missing
  new_receiver_at = record { is_q = refl; is_m = refl; used = refl; sound = receiver_sound _ (record { alphabet = alphabet; variables = variables; below = refl; used = omega arith; start = refl }) }

  receiver_at : (j : ℕ) (z : ReceiverSlot) → get_elem? launch j ≡ some z → ReceiverAt q m j (receiver_before j)
  receiver_at j z e = rw zero-add at (chain_before receiver_call receiver_slot next_slot ReceivedBy (ReceiverAt q m) (receiver_keep q m) 0 (new_receiver q m) launch _ launch_chain new_receiver_at j z e)

  receiver_end : ReceiverAt q m (length launch) (receiver_after (new_receiver q m) calls)
  receiver_end = rw zero-add at (chain_end receiver_call receiver_slot next_slot ReceivedBy (ReceiverAt q m) (receiver_keep q m) 0 (new_receiver q m) launch _ launch_chain new_receiver_at)

  launch_heard : (j : ℕ) (z : ReceiverSlot) → get_elem? launch j ≡ some z → Heard (receiver_before j) z
  launch_heard j z e = (chain_made receiver_call receiver_slot next_slot ReceivedBy (new_receiver q m) launch _ launch_chain j z e).heard

  -- what a slot read answered is what the session before it delivers
  launch_answer : AnswersDeliveries launch
  launch_answer j y message values e = (receive_delivery (receiver_before j) y, e ∙ ap (λ v. some (read y message v)) (launch_heard j _ e).2)

  launch_read : (j : ℕ) (y message : List ℕ) (delivery : Delivery) → Accepted launch j y message delivery
      → ReadFrom q m (receiver_before j).reference j y message delivery
  launch_read j y message delivery e = read_from q m j (receiver_before j) y message delivery (receiver_at j _ e) (launch_heard j _ e)

  launch_doubtful : (j : ℕ) (y : List ℕ) → get_elem? launch j ≡ some (doubtful y) → is_readable q m y ≡ false
  launch_doubtful j y e = subst₂ (λ a c. is_readable a c y ≡ false) (receiver_at j _ e).is_q (receiver_at j _ e).is_m (launch_heard j _ e)

  -- the reference before a slot is what the slot before left
  launch_reference : (i : ℕ) (z : ReceiverSlot) → get_elem? launch i ≡ some z → (receiver_before (suc i)).reference ≡ reference_after q m z
  unfolding next_slot next_receiver
  launch_reference i z e =
      ap (λ s. s.reference) (before_next next_slot (new_receiver q m) launch i z e) ∙ ap₂ (λ a c. reference_after a c z) (receiver_at i z e).is_q (receiver_at i z e).is_m

  -- the zone that a slot says, by the reference that it had
  launch_zone : (j : ℕ) (y message : List ℕ) (delivery : Delivery) → Accepted launch j y message delivery
      → (reference : std.Option ℕ) → (receiver_before j).reference ≡ reference → delivery.zone ≡ zone_from q reference (receive_constant q m y)
  launch_zone j y message delivery e reference h = (launch_read j y message delivery e).zone ∙ ap (λ r. zone_from q r (receive_constant q m y)) h

  zone_after : ZonesAfterRead q m launch
  unfolding reference_after zone_from
  zone_after i y message delivery e y' message' delivery' e' = launch_zone (suc i) y' message' delivery' e' _ (launch_reference i _ e)

  no_reference_zone : (j : ℕ) (y message : List ℕ) (delivery : Delivery) → Accepted launch j y message delivery → delivery.zone ≡ None → NoReference launch j
  no_reference_zone zero y message delivery e u = first
  no_reference_zone (suc i) y message delivery e u = let (z, f) = earlier launch i _ e in go z f
    where
      go : (z : ReceiverSlot) → get_elem? launch i ≡ some z → NoReference launch (suc i)
      go (read y₀ message₀ values) f =
          let (delivery₀, g) = launch_answer i y₀ message₀ values f in
          absurd (none-some _ (sym u ∙ zone_after i y₀ message₀ delivery₀ g y message delivery e))
      go (doubtful word) f = after_doubtful i word f
      go missed f = after_missed i f

  zone_no_reference : (j : ℕ) (y message : List ℕ) (delivery : Delivery) → Accepted launch j y message delivery → NoReference launch j → delivery.zone ≡ None
  unfolding reference_after zone_from before
  zone_no_reference j y message delivery e first = launch_zone 0 y message delivery e None refl
  zone_no_reference j y message delivery e (after_missed i f) = launch_zone (suc i) y message delivery e None (launch_reference i _ f)
  zone_no_reference j y message delivery e (after_doubtful i word f) = launch_zone (suc i) y message delivery e None (launch_reference i _ f)

module _ (q m t : ℕ) (alphabet : is_alphabet q ≡ true) (variables : is_variables m ≡ true) (sends : List Send) (calls : List ReceiverCall) where
  abbrev strap' : List SenderSlot
  strap' = strap q m alphabet variables sends

  abbrev launch' : List ReceiverSlot
  launch' = launch q m alphabet variables calls

  -- the constant before slot j of the strap
  abbrev last_at : ℕ → ℕ
  last_at j = (sender_before q m alphabet variables sends j).last

  module _ (j : ℕ) (x : SenderSlot) (y : List ℕ) (slot : LightSlot q m t strap' launch' j x y) where
    light_slot_sent : SentFrom q m (last_at j) x
    light_slot_sent = strap_sent q m alphabet variables sends j x slot.sent

    light_slot_read : (message : List ℕ) × (delivery : Delivery) × Accepted launch' j y message delivery
    unfolding received_word
    light_slot_read = go (get_elem? launch' j) refl slot.received
      where
        go : (o : Option ReceiverSlot) → get_elem? launch' j ≡ o → received_word o ≡ some y → (message : List ℕ) × (delivery : Delivery) × Accepted launch' j y message delivery
        go none e w = absurd (none-ne-some y w)
        go (some (read word message values)) e w =
            let h : word ≡ y = some-injective word y w in
            let (delivery, f) = launch_answer q m alphabet variables calls j y message values (e ∙ ap (λ l. some (read l message values)) h) in
            (message, delivery, f)
        go (some (doubtful word)) e w =
            let no : is_readable q m y ≡ false = ap (is_readable q m) (sym (some-injective word y w)) ∙ launch_doubtful q m alphabet variables calls j word e in
            let yes : is_readable q m y ≡ true = light_readable q m t (alphabet_positive q alphabet) x (last_at j) light_slot_sent y slot.light in
            absurd (true≢false (sym yes ∙ no))
        go (some missed) e w = absurd (none-ne-some y w)

    light_slot_constant : receive_constant q m y ≡ ((last_at j + at x.message 0) % q + t) % q
    unfolding constant
    light_slot_constant = light_constant q m t (alphabet_positive q alphabet) x (last_at j) light_slot_sent y slot.light

    module _ (message : List ℕ) (delivery : Delivery) (read : Accepted launch' j y message delivery) where
      light_slot_wrong : delivery.wrong ≡ altered q m t (at x.word) (at y)
      light_slot_wrong =
          (launch_read q m alphabet variables calls j y message delivery read).wrong
          ∙ light_distance q m t (alphabet_positive q alphabet) x (last_at j) light_slot_sent y slot.light

      light_slot_coefficient : (k : ℕ) → k < m → at message (suc k) ≡ at x.message (suc k)
      light_slot_coefficient k l =
          ap (λ b. at b (suc k)) (launch_read q m alphabet variables calls j y message delivery read).message
          ∙ get_or-set_other (near_message q m y) 0 (suc k) _ 0 (λ e. omega (arith, e))
          ∙ light_coefficient q m t (alphabet_positive q alphabet) x (last_at j) light_slot_sent y slot.light k

  light_slot_place : (i : ℕ) (x : SenderSlot) (y : List ℕ) → LightSlot q m t strap' launch' i x y
      → (x' : SenderSlot) (y' : List ℕ) → LightSlot q m t strap' launch' (suc i) x' y' → (message : List ℕ) (delivery : Delivery) → Accepted launch' (suc i) y' message delivery
      → at message 0 ≡ at x'.message 0
  unfolding zone_symbol
  light_slot_place i x y slot x' y' slot' message delivery e =
      let (message₀, delivery₀, e₀) = light_slot_read i x y slot in
      let h = alphabet_positive q alphabet in
      let d = at x'.message 0 in
      let c = (last_at i + at x.message 0) % q in
      let f = light_slot_sent (suc i) x' y' slot' in
      let zone : delivery.zone ≡ Some (sub_mod q (receive_constant q m y') (receive_constant q m y)) =
      zone_after q m alphabet variables calls i y message₀ delivery₀ e₀ y' message delivery e in
      let new : receive_constant q m y' ≡ ((c + d) % q + t) % q =
      light_slot_constant (suc i) x' y' slot' ∙ ap (λ l. ((l + d) % q + t) % q) (strap_last q m alphabet variables sends i x slot.sent) in
      read_place q m _ (suc i) y' message delivery (launch_read q m alphabet variables calls (suc i) y' message delivery e)
      ∙ ap zone_symbol zone
      ∙ ap₂ (sub_mod q) new (light_slot_constant i x y slot)
      ∙ sub_mod_turned q c d t h (f.symbols.below 0 (omega arith))

  from_openings : WholeSessions q m t strap' launch' (sender_after (new_sender q m) sends) (receiver_after (new_receiver q m) calls)
  from_openings =
      let s = sender_end q m alphabet variables sends in
      let r = receiver_end q m alphabet variables calls in
      record {
        accepted = light_slot_read;
        wrong = light_slot_wrong;
        coefficients = light_slot_coefficient;
        place0 = light_slot_place;
        no_zone = λ j y message delivery e. (no_reference_zone q m alphabet variables calls j y message delivery e, zone_no_reference q m alphabet variables calls j y message delivery e);
        zone = zone_after q m alphabet variables calls;
        zone_place = λ j y message delivery e. read_place q m _ j y message delivery (launch_read q m alphabet variables calls j y message delivery e);
        answers = launch_answer q m alphabet variables calls;
        time = λ j y message delivery e. (launch_read q m alphabet variables calls j y message delivery e).time;
        apart = λ a b ha hb k l d u v y hy. never_both q m (alphabet_positive q alphabet) a b ha hb k l d u v (at y);
        sender_sound = s.sound;
        receiver_sound = r.sound;
        sender_code = (s.is_q, s.is_m);
        receiver_code = (r.is_q, r.is_m);
        sender_used = s.used;
        receiver_used = r.used;
        send_sound = send_not_3 _ s.sound;
        receive_sound = receive_not_3 _ r.sound;
        miss_sound = miss_not_3 _ r.sound;
        send_full = λ message word. subst (λ n. (send_refusal (sender_after (new_sender q m) sends) message word ≡ 4) ↔ (n ≡ slots)) s.used (send_full _ s.sound message word);
        receive_full = λ message word. subst (λ n. (receive_refusal (receiver_after (new_receiver q m) calls) message word ≡ 4) ↔ (n ≡ slots)) r.used (receive_full _ r.sound message word);
        miss_full = subst (λ n. (miss_refusal (receiver_after (new_receiver q m) calls) ≡ 4) ↔ (n ≡ slots)) r.used (miss_full _ r.sound);
      }

-- WHOLE SESSIONS: for every q and m that the openings accept, every turn t, and every two lists of calls, refused ones anywhere,
-- each list started from the session that its opening returned
pub whole_sessions : (q m : ℕ) (sender : Sender) (receiver : Receiver) → open_sender q m ≡ Some sender → open_receiver q m ≡ Some receiver
    → (t : ℕ) → t < q → (sends : List Send) (calls : List ReceiverCall)
    → WholeSessions q m t (sender_slots sender sends) (receiver_slots receiver calls) (sender_after sender sends) (receiver_after receiver calls)
whole_sessions q m sender receiver a b t l sends calls =
    let (alphabet, variables, e) = sender_opened_lem q m sender a in
    let (_, _, f) = receiver_opened_lem q m receiver b in
    subst₂ (λ s r. WholeSessions q m t (sender_slots s sends) (receiver_slots r calls) (sender_after s sends) (receiver_after r calls)) e f
    (from_openings q m t alphabet variables sends calls)

-- every slot of the strap was sent by a session of this q and m, from some last constant
pub strap_word : (q m : ℕ) (sender : Sender) → open_sender q m ≡ Some sender → (sends : List Send) (j : ℕ) (x : SenderSlot)
    → get_elem? (sender_slots sender sends) j ≡ some x → (last : ℕ) × SentFrom q m last x
strap_word q m sender a sends j x e =
    let (alphabet, variables, f) = sender_opened_lem q m sender a in
    (_, strap_sent q m alphabet variables sends j x (subst (λ s. get_elem? (sender_slots s sends) j ≡ some x) (sym f) e))
