-- What Receive and Miss leave of a session, by the number that their questions gave. Assumes nothing.
use Prim.Native.Nat.{ℕ, zero, suc}
use mathlib.Core.Path.{◌≡◌, refl, ap, ◌∙◌}
use mathlib.Core.Logic.{◌≢◌}
use mathlib.Core.Bool.{Bool, true, false, cond}
use mathlib.Core.List.{List}
use borrow.Author.Tests.{ne_eqb}
use lib.Dec.{eqb}
use Rattle.code_theory.specs.Question.{after}
use Rattle.code_theory.proofs.QuestionLaws.{after_no}
use Rattle.std.specs.Prelude.{Some, None}
use Rattle.session_receiver.specs.declared.Receiver.{Receiver}
use Rattle.session_receiver.specs.Receiving.{receive_refusal, receive_constant, miss_refusal, next_receiver, after_receive, receive_session, miss_session}

-- what Receive changes: an accepted word, one that is not, a doubtful word, a refused one
module _ {A : Type 0} (n : ℕ) (read doubtful old : A) where
  pub after_read : n ≡ 0 → after_receive n read doubtful old ≡ read
  unfolding after_receive after
  after_read e = rw e

  pub after_unread : n ≢ 0 → after_receive n read doubtful old ≡ cond (eqb n 9) doubtful old
  unfolding after_receive
  after_unread d = ap (cond (eqb n 9) doubtful) (after_no n read old d)

  pub after_doubtful : n ≡ 9 → after_receive n read doubtful old ≡ doubtful
  unfolding after_receive
  after_doubtful e = rw e

  pub after_refused : n ≢ 0 → n ≢ 9 → after_receive n read doubtful old ≡ old
  after_refused d f = after_unread d ∙ ap (λ t. cond t doubtful old) (ne_eqb n 9 f)

-- both leave the code of the session as it was
abbrev pub SameCode : Receiver → Receiver → Type 0
SameCode s r = (r.q ≡ s.q) × (r.m ≡ s.m)

pub receive_code : (s : Receiver) (message word : List ℕ) → SameCode s (receive_session s message word)
unfolding receive_session next_receiver after_receive after
receive_code s message word = by (eqb (receive_refusal s message word) 9) (receive_refusal s message word)
  where
    by : (t : Bool) (n : ℕ) → SameCode s (cond t (next_receiver s None) (after n (next_receiver s (Some (receive_constant s.q s.m word))) s))
    by true n = (refl, refl)
    by false zero = (refl, refl)
    by false (suc n) = (refl, refl)

pub miss_code : (s : Receiver) → SameCode s (miss_session s)
unfolding miss_session next_receiver after
miss_code s = by (miss_refusal s)
  where
    by : (n : ℕ) → SameCode s (after n (next_receiver s None) s)
    by zero = (refl, refl)
    by (suc n) = (refl, refl)
