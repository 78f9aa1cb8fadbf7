-- DEMAND 3 (docs/REQUIREMENTS.md: Whole sessions): what holds of two whole lists of calls, sentence by sentence.
use Rattle.std.specs.Prelude.{ℕ, suc, ◌*◌, ◌^◌, ◌<◌, ◌≡◌, ◌≢◌, ◌↔◌, true, List, length, Some, None}
-- the Option of `get_elem?`; the code's has Some and None
use Rattle.std.proofs.Math.Option.{Option, none, some}
use Rattle.std.proofs.Math.ListN.{get_elem?}
use Rattle.code_theory.specs.Sum.{at}
use Rattle.code_theory.specs.Modular.{sub_mod}
use Rattle.code_theory.specs.Code.{codeword, Symbols}
use Rattle.code_theory.specs.Turn.{altered}
use Rattle.session_sender.specs.declared.Sender.{Sender}
use Rattle.session_receiver.specs.declared.Receiver.{Receiver}
use Rattle.session_receiver.specs.declared.Delivery.{Delivery}
use Rattle.session_slot.specs.Slot.{slots, slot_time}
use Rattle.session_sender.specs.Sending.{sound_sender, send_refusal}
use Rattle.session_receiver.specs.Receiving.{sound_receiver, receive_refusal, miss_refusal, receive_constant, zone_symbol, delivery_values}
use Rattle.session_history_theory.specs.Calls.{SenderSlot, ReceiverSlot, read, doubtful, missed}

-- the word that a slot received; a missed slot has none, nor has one past the end
unfoldable pub received_word : Option ReceiverSlot → Option (List ℕ)
received_word none = none
received_word (some (read word message values)) = some word
received_word (some (doubtful word)) = some word
received_word (some missed) = none

-- What the claim is for: a j that both lists have, where slot j of the strap is x and slot j of the launch received the word y, with
-- 4 × altered < n.
pub record LightSlot (q m t : ℕ) (strap : List SenderSlot) (launch : List ReceiverSlot) (j : ℕ) (x : SenderSlot) (y : List ℕ) : Type 0 where
  pub sent : get_elem? strap j ≡ some x
  pub received : received_word (get_elem? launch j) ≡ some y
  pub light : 4 * altered q m t (at x.word) (at y) < 2 ^ m

-- Slot j of the launch is a receive of y that was accepted: it left this message slice, and answered the zone, if any, wrong, margin
-- and time of this delivery.
abbrev pub Accepted : List ReceiverSlot → ℕ → List ℕ → List ℕ → Delivery → Type 0
Accepted launch j y message delivery = get_elem? launch j ≡ some (read y message (delivery_values delivery))

-- slot j is the first, or the one before it was missed or doubtful
pub data NoReference (launch : List ReceiverSlot) : ℕ → Type 0 where
  first : NoReference launch 0
  after_missed : (i : ℕ) → get_elem? launch i ≡ some missed → NoReference launch (suc i)
  after_doubtful : (i : ℕ) (word : List ℕ) → get_elem? launch i ≡ some (doubtful word) → NoReference launch (suc i)

-- Whatever a slot read answered are the values of a delivery.
abbrev pub AnswersDeliveries : List ReceiverSlot → Type 0
AnswersDeliveries launch =
    (j : ℕ) (y message values : List ℕ) → get_elem? launch j ≡ some (read y message values) → (delivery : Delivery) × Accepted launch j y message delivery

-- The zone of a slot read after a slot read is its word's constant minus the one before, which became the reference.
abbrev pub ZonesAfterRead : ℕ → ℕ → List ReceiverSlot → Type 0
ZonesAfterRead q m launch =
    (i : ℕ) (y message : List ℕ) (delivery : Delivery) → Accepted launch i y message delivery
    → (y' message' : List ℕ) (delivery' : Delivery) → Accepted launch (suc i) y' message' delivery'
    → delivery'.zone ≡ Some (sub_mod q (receive_constant q m y') (receive_constant q m y))

-- The slots of the strap and of the launch, under the turn t, and the sessions that the two lists end in.
pub record WholeSessions (q m t : ℕ) (strap : List SenderSlot) (launch : List ReceiverSlot) (sender : Sender) (receiver : Receiver) : Type 0 where
  -- Such a receive is accepted;
  pub accepted : (j : ℕ) (x : SenderSlot) (y : List ℕ) → LightSlot q m t strap launch j x y → (message : List ℕ) × (delivery : Delivery) × Accepted launch j y message delivery
  -- its wrong equals altered;
  pub wrong : (j : ℕ) (x : SenderSlot) (y : List ℕ) → LightSlot q m t strap launch j x y → (message : List ℕ) (delivery : Delivery) → Accepted launch j y message delivery
      → delivery.wrong ≡ altered q m t (at x.word) (at y)
  -- places 1 to m of its message slice are those of the message sent;
  pub coefficients : (j : ℕ) (x : SenderSlot) (y : List ℕ) → LightSlot q m t strap launch j x y → (message : List ℕ) (delivery : Delivery) → Accepted launch j y message delivery
      → (k : ℕ) → k < m → at message (suc k) ≡ at x.message (suc k)
  -- and so is place 0 where slot j − 1 was such a word too.
  pub place0 : (i : ℕ) (x : SenderSlot) (y : List ℕ) → LightSlot q m t strap launch i x y
      → (x' : SenderSlot) (y' : List ℕ) → LightSlot q m t strap launch (suc i) x' y' → (message : List ℕ) (delivery : Delivery) → Accepted launch (suc i) y' message delivery
      → at message 0 ≡ at x'.message 0
  -- An accepted receive says that there is no zone where it is slot 0 or the slot before it was missed or doubtful, and nowhere else.
  pub no_zone : (j : ℕ) (y message : List ℕ) (delivery : Delivery) → Accepted launch j y message delivery → (delivery.zone ≡ None) ↔ NoReference launch j
  -- After a slot that was read, however damaged, the zone is the one of Receiving.
  pub zone : ZonesAfterRead q m launch
  -- Receiving: the zone stands in place 0 of the message slice, and 0 where there is none.
  pub zone_place : (j : ℕ) (y message : List ℕ) (delivery : Delivery) → Accepted launch j y message delivery → at message 0 ≡ zone_symbol delivery.zone
  -- Receiving: the answer carries the time of the slot.
  pub time : (j : ℕ) (y message : List ℕ) (delivery : Delivery) → Accepted launch j y message delivery → delivery.time ≡ slot_time j
  -- Every slot read answered a delivery, so the sentences above speak of every accepted receive.
  pub answers : AnswersDeliveries launch
  -- Two words whose messages differ in a coefficient, each turned by a number of its own, never both differ from one list of n symbols
  -- below q in fewer than n/4 places.
  pub apart : (a b : List ℕ) → Symbols q (suc m) a → Symbols q (suc m) b → (k : ℕ) → k < m → at a (suc k) ≢ at b (suc k)
      → (u v : ℕ) (y : List ℕ) → Symbols q (2 ^ m) y
      → 4 * altered q m u (at (codeword q m a)) (at y) < 2 ^ m → 4 * altered q m v (at (codeword q m b)) (at y) < 2 ^ m → ⊥
  -- A refused call makes no slot. So that the claim is not kept by refusing, the session that a list reaches from its opening is sound,
  pub sender_sound : sound_sender sender ≡ true
  pub receiver_sound : sound_receiver receiver ≡ true
  -- for the q and m that it was opened for,
  pub sender_code : (sender.q ≡ q) × (sender.m ≡ m)
  pub receiver_code : (receiver.q ≡ q) × (receiver.m ≡ m)
  -- with as many slots used as the list has slots:
  pub sender_used : sender.used ≡ length strap
  pub receiver_used : receiver.used ≡ length launch
  -- so question 3 never refuses the call after the list,
  pub send_sound : (message word : List ℕ) → send_refusal sender message word ≢ 3
  pub receive_sound : (message word : List ℕ) → receive_refusal receiver message word ≢ 3
  pub miss_sound : miss_refusal receiver ≢ 3
  -- and question 4 refuses it exactly after 65,536 slots.
  pub send_full : (message word : List ℕ) → (send_refusal sender message word ≡ 4) ↔ (length strap ≡ slots)
  pub receive_full : (message word : List ℕ) → (receive_refusal receiver message word ≡ 4) ↔ (length launch ≡ slots)
  pub miss_full : (miss_refusal receiver ≡ 4) ↔ (length launch ≡ slots)
