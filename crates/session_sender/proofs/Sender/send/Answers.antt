-- `send` meets its contract: past the questions a slot is left, and the message and its word fit.
use Rattle.std.proofs.Common.{◌+◌, set, refl, ap, ◌∙◌, arith}
use Rattle.code_questions.proofs.RefusalLaws.{stopped, passed, passed_answer, passed_after, stopped_answer, stopped_after}
use Rattle.code_questions.specs.Refusal.{no_values}
use borrow.Author.Tests.{ltb-true}
use Rattle.code_theory.specs.Code.{codeword}
use Rattle.session_sender.specs.Sending.{send_answer, send_session, send_word, sent_session, send_constant}
use Rattle.session_sender.proofs.SoundLaws.{send_yes, send_sendable}
use Rattle.session_sender.proofs.Sender.send.Goals as goal

pub returns-in_err-ask_send : goal.returns-in_err-ask_send
unfolding send_answer send_session send_word sent_session
returns-in_err-ask_send c =
    let e = c.in_err-ask_send.ensures in
    let s = c.from_residual.ensures.1 in
    record {
      answer = stopped_answer _ _ _ e _ _ _ s;
      session = ap (sent_session c.args.self) (stopped _ _ s) ∙ stopped_after _ _ _ e _ _;
      buffer = stopped_after _ _ _ e _ _;
    }

pub bounds-message-0 : goal.bounds-message-0
bounds-message-0 c = omega (arith, (send_yes _ _ _ (passed _ _ c.in_ok-ask_send.ensures)).symbols.size)

pub add_mod-constant-requires : goal.add_mod-constant-requires
add_mod-constant-requires c =
    let y = send_yes _ _ _ (passed _ _ c.in_ok-ask_send.ensures) in
    (y.parts.alphabet, ltb-true _ _ y.parts.below, y.symbols.below 0 (omega arith))

pub write-requires : goal.write-requires
unfolding send_constant
write-requires c = send_sendable _ _ _ _ (passed _ _ c.in_ok-ask_send.ensures) c.add_mod-constant.ensures

pub overflow_add-result : goal.overflow_add-result
overflow_add-result c = omega (arith, (send_yes _ _ _ (passed _ _ c.in_ok-ask_send.ensures)).room)

pub returns : goal.returns
unfolding send_answer send_session send_word sent_session no_values send_constant
returns c =
    let e = c.in_ok-ask_send.ensures in
    let s = c.args.self in
    let k = c.add_mod-constant.ensures in
    record {
      answer = passed_answer _ _ e _ _ _ refl;
      session = ap (λ last. record s { last = last; used = s.used + 1 }) k ∙ passed_after _ _ e _ _;
      buffer = (c.write.ensures ∙ ap (λ last. codeword s.q s.m (set c.args.message.now 0 last)) k) ∙ passed_after _ _ e _ _;
    }
