-- `compare_open_receiver` meets its contract: the number for each answer of open, and the session in the slice.
use Rattle.std.proofs.Common.{◌∙◌}
use Rattle.code_theory.proofs.QuestionLaws.{number_yes, number_no}
use Rattle.code_questions.specs.Refusal.{answered}
use Rattle.session_receiver.specs.Receiving.{opened_receiver}
use Rattle.compare_session.proofs.AnswerLaws.{is_four_yes, is_four_no, cond_yes, cond_no, receiver_put, receiver_kept, opened_yes, opened_no, opened_kept}
use Rattle.compare_session.proofs.compare_open_receiver.Goals as goal

pub returns-then-session-ne4 : goal.returns-then-session-ne4
returns-then-session-ne4 c =
    let h = is_four_no _ c.if-session-ne4.true in
    record { answer = cond_no _ _ _ h; session = opened_kept _ _ _ (receiver_kept _ h) }

pub returns-in-Ok : goal.returns-in-Ok
unfolding answered opened_receiver
returns-in-Ok c =
    let h = is_four_yes _ c.if-session-ne4.false in
    let e = c.in-Ok.ensures in
    record {
      answer = number_yes _ _ e.answer ∙ cond_yes _ _ _ h;
      session = c.put.ensures ∙ c.receiver_numbers.ensures ∙ receiver_put _ h _ ∙ opened_yes _ _ _ _ e.session;
    }

pub returns-in-Err : goal.returns-in-Err
unfolding answered opened_receiver
returns-in-Err c =
    let e = c.in-Err.ensures in
    record {
      answer = c.into.ensures ∙ number_no _ _ e.answer ∙ cond_yes _ _ _ (is_four_yes _ c.if-session-ne4.false);
      session = opened_no _ _ _ e.session;
    }
