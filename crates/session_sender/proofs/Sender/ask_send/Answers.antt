-- `ask_send` meets its contract: past question 3 the session's q and m are those of a code.
use Rattle.std.proofs.Common.{sym, ◌∙◌}
use borrow.Author.Tests.{eqb-true}
use Rattle.code_theory.proofs.QuestionLaws.{variables_bounds}
use Rattle.code_questions.proofs.RefusalLaws.{asked_yes}
use Rattle.session_sender.proofs.SoundLaws.{sender_parts}
use Rattle.session_sender.proofs.Sender.ask_send.Goals as goal

pub message_below-requires : goal.message_below-requires
message_below-requires c =
    let p = sender_parts _ (sym c.is_sound.ensures ∙ asked_yes _ _ 2 c.in_ok-ask.ensures) in
    let (low, high) = variables_bounds _ p.variables in
    (p.alphabet, low, high, eqb-true _ _ (asked_yes _ _ 4 c.in_ok-ask-3.ensures))

pub pow2-requires : goal.pow2-requires
pow2-requires c = (variables_bounds _ (sender_parts _ (sym c.is_sound.ensures ∙ asked_yes _ _ 2 c.in_ok-ask.ensures)).variables).1
