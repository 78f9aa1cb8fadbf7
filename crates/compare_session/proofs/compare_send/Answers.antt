-- `compare_send` meets its contract: the number for each answer of send, and the session in the slice.
use Rattle.std.proofs.Common.{ap, ◌∙◌}
use Rattle.code_theory.proofs.QuestionLaws.{number_yes, number_no}
use Rattle.code_questions.specs.Refusal.{answered}
use Rattle.session_sender.specs.Sending.{send_answer, send_session, send_word, sent_session}
use Rattle.compare_session.specs.Internal.{with_sender}
use Rattle.compare_session.proofs.AnswerLaws.{is_four_lem, found, not_found, cond_yes, sender_put, sender_kept, by_yes, by_no, by_same}
use Rattle.compare_session.proofs.compare_send.Goals as goal

pub returns-in_default-clause-session : goal.returns-in_default-clause-session
returns-in_default-clause-session c = by_same _ _ _ (sender_kept _ (not_found _ _ c.in_default.ensures) _)

pub put-requires : goal.put-requires
put-requires c = is_four_lem _ (found _ _ _ c.in-Some.ensures).0

pub returns-in-Ok : goal.returns-in-Ok
unfolding answered sent_session
returns-in-Ok c =
    let (four, s) = found _ _ _ c.in-Some.ensures in
    let l = c.args.session.now in
    let message = c.args.message.now in
    let word = c.args.word.now in
    let e = c.in-Ok.ensures in
    let answer = e.answer ∙ ap (λ t. send_answer t message word) s in
    record {
      answer = number_yes _ _ answer ∙ cond_yes _ _ _ four;
      session =
          c.put.ensures ∙ c.sender_numbers.ensures ∙ sender_put _ four _
          ∙ ap (λ t. with_sender t l) (e.session ∙ ap (λ t. send_session t message word) s)
          ∙ by_yes _ _ _ _ answer;
      buffer = e.buffer ∙ ap (λ t. send_word t message word) s ∙ cond_yes _ _ _ four;
    }

pub returns-in-Err : goal.returns-in-Err
unfolding answered
returns-in-Err c =
    let (four, s) = found _ _ _ c.in-Some.ensures in
    let message = c.args.message.now in
    let word = c.args.word.now in
    let e = c.in-Err.ensures in
    let answer = e.answer ∙ ap (λ t. send_answer t message word) s in
    record {
      answer = c.into.ensures ∙ number_no _ _ answer ∙ cond_yes _ _ _ four;
      session = by_no _ _ _ _ answer;
      buffer = e.buffer ∙ ap (λ t. send_word t message word) s ∙ cond_yes _ _ _ four;
    }
