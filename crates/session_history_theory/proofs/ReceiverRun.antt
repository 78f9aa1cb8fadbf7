-- The slots of a receiver, each with the session before it. Assumes nothing.
use Prim.Native.Nat.{ℕ, zero, suc}
use mathlib.Core.Path.{◌≡◌, refl, ◌∙◌}
use mathlib.Core.Logic.{◌⊎◌, inl, inr}
use mathlib.Core.Bool.{Bool, true, false}
use mathlib.Core.List.{List, [], ◌∷◌}
use native.Mathlib.Omega.{arith}
use lib.Dec.{eqb}
use lib.ListN.{set}
use borrow.Author.Tests.{eqb-true, lt-ltb}
use Rattle.code_theory.specs.Nearest.{is_readable, near_message}
use Rattle.code_theory.specs.Question.{answer, after}
use Rattle.session_receiver.specs.declared.Receiver.{Receiver}
use Rattle.std.specs.Prelude.{Option, Some, None}
use Rattle.session_receiver.specs.Receiving.{is_below, sound_receiver, receive_refusal, receive_constant, zone_symbol, receive_delivery, delivery_values, receive_answer, receive_message, next_receiver, after_receive, receive_session, miss_refusal, miss_answer, miss_session}
use Rattle.session_receiver.proofs.SoundLaws.{ReceiveYes, miss_yes, receive_yes, receive_doubtful, constant_below, receiver_next}
use Rattle.session_history_theory.specs.Calls.{if_accepted, ReceiverCall, receive, miss, ReceiverSlot, read, doubtful, missed, if_received, receiver_call, receiver_slot}
use Rattle.session_history_theory.proofs.Run.{Step}

-- the reference that a slot leaves
unfoldable pub reference_after : ℕ → ℕ → ReceiverSlot → Option ℕ
reference_after q m (read word message values) = Some (receive_constant q m word)
reference_after q m (doubtful word) = None
reference_after q m missed = None

-- the session that a slot leaves
unfoldable pub next_slot : Receiver → ReceiverSlot → Receiver
next_slot s z = next_receiver s (reference_after s.q s.m z)

-- what the session s makes of the word of a slot
abbrev pub Heard : Receiver → ReceiverSlot → Type 0
Heard s (read word message values) =
    (is_readable s.q s.m word ≡ true) × (message ≡ set (near_message s.q s.m word) 0 (zone_symbol (receive_delivery s word).zone)) × (values ≡ delivery_values (receive_delivery s word))
Heard s (doubtful word) = is_readable s.q s.m word ≡ false
Heard s missed = Unit {0}

-- the slot z, made by the session s
pub record ReceivedBy (s : Receiver) (z : ReceiverSlot) : Type 0 where
  pub yes : ReceiveYes s
  pub heard : Heard s z

receive_step : (s : Receiver) (message word : List ℕ) → Step receiver_call receiver_slot next_slot ReceivedBy s (receive message word)
unfolding receiver_call receiver_slot receive_session receive_message receive_answer next_slot reference_after after_receive after answer if_received
receive_step s message word = go (receive_refusal s message word) refl
  where
    place : List ℕ
    place = set (near_message s.q s.m word) 0 (zone_symbol (receive_delivery s word).zone)

    session : ℕ → Receiver
    session n = after_receive n (next_receiver s (Some (receive_constant s.q s.m word))) (next_receiver s None) s

    slot : ℕ → List ReceiverSlot
    slot n = if_received word (after n place message) (answer n (delivery_values (receive_delivery s word)))

    other : (n : ℕ) (b : Bool) → eqb (suc n) 9 ≡ b → receive_refusal s message word ≡ suc n
        → ((session (suc n) ≡ s) × (slot (suc n) ≡ [])) ⊎ ((z : ReceiverSlot) × (session (suc n) ≡ next_slot s z) × (slot (suc n) ≡ z ∷ []) × ReceivedBy s z)
    other n true f e =
        let (y, h) = receive_doubtful s message word (e ∙ eqb-true (suc n) 9 f) in
        inr (doubtful word, rw f, rw f, record { yes = y; heard = h })
    other n false f e = inl (rw f, rw f)

    go : (n : ℕ) → receive_refusal s message word ≡ n
        → ((session n ≡ s) × (slot n ≡ [])) ⊎ ((z : ReceiverSlot) × (session n ≡ next_slot s z) × (slot n ≡ z ∷ []) × ReceivedBy s z)
    go zero e =
        let (y, h) = receive_yes s message word e in
        inr (read word place (delivery_values (receive_delivery s word)), refl, refl, record { yes = y; heard = (h, refl, refl) })
    go (suc n) e = other n (eqb (suc n) 9) refl e

miss_step : (s : Receiver) → Step receiver_call receiver_slot next_slot ReceivedBy s miss
unfolding receiver_call receiver_slot miss_session miss_answer next_slot reference_after after answer if_accepted
miss_step s = go (miss_refusal s) refl
  where
    go : (n : ℕ) → miss_refusal s ≡ n
        → ((after n (next_receiver s None) s ≡ s) × (if_accepted missed (answer n []) ≡ []))
        ⊎ ((z : ReceiverSlot) × (after n (next_receiver s None) s ≡ next_slot s z) × (if_accepted missed (answer n []) ≡ z ∷ []) × ReceivedBy s z)
    go zero e = inr (missed, refl, refl, record { yes = miss_yes s e; heard = tt })
    go (suc n) e = inl (refl, refl)

pub receiver_step : (s : Receiver) (c : ReceiverCall) → Step receiver_call receiver_slot next_slot ReceivedBy s c
receiver_step s (receive message word) = receive_step s message word
receiver_step s miss = miss_step s

-- what holds of a receiver after n slots
pub record ReceiverAt (q m n : ℕ) (s : Receiver) : Type 0 where
  pub is_q : s.q ≡ q
  pub is_m : s.m ≡ m
  pub used : s.used ≡ n
  pub sound : sound_receiver s ≡ true

reference_below : (s : Receiver) (z : ReceiverSlot) → Heard s z → is_below s.q (reference_after s.q s.m z) ≡ true
unfolding is_below reference_after
reference_below s (read word message values) h = lt-ltb _ _ (constant_below s.q s.m word h.0)
reference_below s (doubtful word) h = refl
reference_below s missed h = refl

pub receiver_keep : (q m n : ℕ) (s : Receiver) (z : ReceiverSlot) → ReceivedBy s z → ReceiverAt q m n s → ReceiverAt q m (suc n) (next_slot s z)
unfolding next_slot next_receiver
receiver_keep q m n s z b h =
    record { is_q = h.is_q; is_m = h.is_m; used = omega (arith, h.used); sound = receiver_next s _ b.yes (reference_below s z b.heard) }
