-- `miss` meets its contract: past the questions a slot is left.
use Rattle.std.proofs.Common.{refl, ap, ◌∙◌}
use Rattle.code_questions.proofs.RefusalLaws.{stopped, passed, passed_answer, passed_after, stopped_answer, stopped_after}
use Rattle.code_questions.specs.Refusal.{no_values}
use Rattle.session_receiver.specs.Receiving.{miss_answer, miss_session, missed_session}
use Rattle.session_receiver.proofs.SoundLaws.{miss_yes}
use Rattle.session_receiver.proofs.Receiver.miss.Goals as goal

pub returns-in_err-ask_slot : goal.returns-in_err-ask_slot
unfolding miss_answer miss_session missed_session
returns-in_err-ask_slot c =
    let e = c.in_err-ask_slot.ensures in
    let s = c.from_residual.ensures.1 in
    record { answer = stopped_answer _ _ _ e _ _ _ s; session = ap (missed_session c.args.self) (stopped _ _ s) ∙ stopped_after _ _ _ e _ _ }

pub next-requires : goal.next-requires
next-requires c = (miss_yes _ (passed _ _ c.in_ok-ask_slot.ensures)).room

pub returns : goal.returns
unfolding miss_answer miss_session missed_session no_values
returns c = let e = c.in_ok-ask_slot.ensures in record { answer = passed_answer _ _ e _ _ _ refl; session = c.next.ensures ∙ passed_after _ _ e _ _ }
