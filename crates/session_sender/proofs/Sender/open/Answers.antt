-- `open` meets its contract: the questions let it go on, or stop it.
use Rattle.std.proofs.Common.{refl, ap, ◌∙◌}
use Rattle.code_questions.proofs.RefusalLaws.{stopped, passed_answer, passed_after, stopped_answer, stopped_after}
use Rattle.code_questions.specs.Refusal.{no_values}
use Rattle.session_slot.specs.Slot.{open_answer}
use Rattle.session_sender.specs.Sending.{open_sender, opened_sender}
use Rattle.session_sender.proofs.Sender.open.Goals as goal

pub returns-in_err-ask_open : goal.returns-in_err-ask_open
unfolding open_answer open_sender opened_sender
returns-in_err-ask_open c =
    let e = c.in_err-ask_open.ensures in
    let s = c.from_residual.ensures.1 in
    record { answer = stopped_answer _ _ _ e _ _ _ s; session = ap opened_sender (stopped _ _ s) ∙ stopped_after _ _ _ e _ _ }

pub returns : goal.returns
unfolding open_answer open_sender opened_sender no_values
returns c = let e = c.in_ok-ask_open.ensures in record { answer = passed_answer _ _ e _ _ _ refl; session = passed_after _ _ e _ _ }
