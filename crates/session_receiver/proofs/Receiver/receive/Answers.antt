-- `receive` meets its contract: the questions give the number, and decode the message.
use Rattle.std.proofs.Common.{refl, ap, ◌∙◌, Err}
use Rattle.code_questions.specs.Internal.{refusal}
use Rattle.code_questions.proofs.RefusalLaws.{doubtful_number, stopped, passed}
use Rattle.session_receiver.specs.Receiving.{received, received_values, received_session, next_receiver}
use Rattle.session_receiver.proofs.SoundLaws.{miss_yes}
use Rattle.session_receiver.proofs.CallLaws.{receive_stopped, word_refused, word_doubtful, word_deliverable, word_read}
use Rattle.session_receiver.proofs.Receiver.receive.Goals as goal

pub returns-in_err-ask_slot : goal.returns-in_err-ask_slot
unfolding refusal received received_session
returns-in_err-ask_slot c =
    let s = stopped _ _ c.from_residual.ensures.1 in
    let (a, b, d) = receive_stopped _ _ _ _ c.in_err-ask_slot.ensures in
    record { answer = ap received s ∙ a; session = ap (received_session c.args.self) s ∙ b; buffer = d }

pub next-requires : goal.next-requires
next-requires c = (miss_yes _ (passed _ _ c.in_ok-ask_slot.ensures)).room

pub deliver-requires : goal.deliver-requires
deliver-requires c = word_deliverable _ _ _ (passed _ _ c.in_ok-ask_slot.ensures) _ _ c.in-Ok.ensures.answer c.in-Ok.ensures.buffer _ refl

pub returns-in-Ok : goal.returns-in-Ok
unfolding received received_session
returns-in-Ok c =
    let (a, b, d) = word_read _ _ _ (passed _ _ c.in_ok-ask_slot.ensures) _ _ c.in-Ok.ensures.answer c.in-Ok.ensures.buffer _ refl _ _ c.deliver.ensures in
    record { answer = a; session = b; buffer = d }

pub returns-in-Doubtful : goal.returns-in-Doubtful
unfolding received received_values received_session next_receiver
returns-in-Doubtful c =
    let (a, b, d) = word_doubtful _ _ _ (passed _ _ c.in_ok-ask_slot.ensures) _ _ c.in-Err.ensures.answer c.in-Err.ensures.buffer (ap Err c.in-Doubtful.is) in
    record { answer = a; session = rw c.next.ensures b; buffer = d }

pub returns-in_default : goal.returns-in_default
unfolding received received_session
returns-in_default c =
    let r = c.in-Err in
    let (a, b, d) = word_refused _ _ _ (passed _ _ c.in_ok-ask_slot.ensures) _ _ r.ensures.answer r.ensures.buffer _ refl (λ e. c.in_default.not-Doubtful (doubtful_number _ e)) in
    record { answer = a; session = b; buffer = d }
