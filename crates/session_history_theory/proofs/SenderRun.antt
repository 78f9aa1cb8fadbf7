-- The slots of a sender, each with the session before it. Assumes nothing.
use Prim.Native.Nat.{ℕ, zero, suc, ◌+◌, ◌<◌}
use mathlib.Core.Path.{◌≡◌, refl}
use mathlib.Core.Logic.{◌⊎◌, inl, inr}
use mathlib.Core.Bool.{true}
use mathlib.Core.List.{List, [], ◌∷◌}
use native.Mathlib.Omega.{arith}
use lib.ListN.{set}
use Rattle.code_theory.specs.Code.{codeword, Symbols}
use Rattle.code_theory.specs.Question.{answer, after}
use Rattle.session_sender.specs.declared.Sender.{Sender}
use Rattle.session_slot.specs.Slot.{slots}
use Rattle.session_sender.specs.Sending.{sound_sender, send_refusal, send_constant, send_answer, send_session, send_word}
use Rattle.session_sender.proofs.SoundLaws.{send_yes, sender_next}
use Rattle.session_history_theory.specs.Calls.{if_accepted, Send, SenderSlot, sender_call, sender_slot}
use Rattle.session_history_theory.proofs.Run.{Step}

-- the session that a slot leaves
unfoldable pub next_sender : Sender → SenderSlot → Sender
next_sender s x = record { q = s.q; m = s.m; last = send_constant s x.message; used = s.used + 1 }

-- the slot x, made by the session s
pub record SentBy (s : Sender) (x : SenderSlot) : Type 0 where
  pub sound : sound_sender s ≡ true
  pub room : s.used < slots
  pub symbols : Symbols s.q (suc s.m) x.message
  pub word : x.word ≡ codeword s.q s.m (set x.message 0 (send_constant s x.message))

pub sender_step : (s : Sender) (c : Send) → Step sender_call sender_slot next_sender SentBy s c
unfolding sender_call sender_slot send_session send_word send_answer next_sender after answer if_accepted
sender_step s c = go (send_refusal s c.message c.word) refl
  where
    written : List ℕ
    written = codeword s.q s.m (set c.message 0 (send_constant s c.message))

    next : Sender
    next = record { q = s.q; m = s.m; last = send_constant s c.message; used = s.used + 1 }

    slot : ℕ → List SenderSlot
    slot n = if_accepted (record { message = c.message; word = after n written c.word }) (answer n [])

    go : (n : ℕ) → send_refusal s c.message c.word ≡ n
        → ((after n next s ≡ s) × (slot n ≡ [])) ⊎ ((x : SenderSlot) × (after n next s ≡ next_sender s x) × (slot n ≡ x ∷ []) × SentBy s x)
    go zero e =
        let y = send_yes s c.message c.word e in
        inr (record { message = c.message; word = written }, refl, refl, record { sound = y.sound; room = y.room; symbols = y.symbols; word = refl })
    go (suc n) e = inl (refl, refl)

-- what holds of a sender after n slots
pub record SenderAt (q m n : ℕ) (s : Sender) : Type 0 where
  pub is_q : s.q ≡ q
  pub is_m : s.m ≡ m
  pub used : s.used ≡ n
  pub sound : sound_sender s ≡ true

pub sender_keep : (q m n : ℕ) (s : Sender) (x : SenderSlot) → SentBy s x → SenderAt q m n s → SenderAt q m (suc n) (next_sender s x)
unfolding next_sender
sender_keep q m n s x b h = record { is_q = h.is_q; is_m = h.is_m; used = omega (arith, h.used); sound = sender_next s x.message b.sound b.room }
