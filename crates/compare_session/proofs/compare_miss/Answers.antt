-- `compare_miss` meets its contract: the number for each answer of miss, and the session in the slice.
use Rattle.std.proofs.Common.{ap, ◌∙◌}
use Rattle.code_theory.proofs.QuestionLaws.{number_yes, number_no}
use Rattle.code_questions.specs.Refusal.{answered}
use Rattle.session_receiver.specs.Receiving.{miss_answer, miss_session, missed_session}
use Rattle.compare_session.specs.Internal.{with_receiver}
use Rattle.compare_session.proofs.AnswerLaws.{is_four_lem, found, not_found, cond_yes, receiver_put, receiver_kept, by_yes, by_no, by_same}
use Rattle.compare_session.proofs.compare_miss.Goals as goal

pub returns-in_default-clause-session : goal.returns-in_default-clause-session
returns-in_default-clause-session c = by_same _ _ _ (receiver_kept _ (not_found _ _ c.in_default.ensures) _)

pub put-requires : goal.put-requires
put-requires c = is_four_lem _ (found _ _ _ c.in-Some.ensures).0

pub returns-in-Ok : goal.returns-in-Ok
unfolding answered missed_session
returns-in-Ok c =
    let (four, s) = found _ _ _ c.in-Some.ensures in
    let l = c.args.session.now in
    let e = c.in-Ok.ensures in
    let answer = e.answer ∙ ap miss_answer s in
    record {
      answer = number_yes _ _ answer ∙ cond_yes _ _ _ four;
      session =
          c.put.ensures ∙ c.receiver_numbers.ensures ∙ receiver_put _ four _ ∙ ap (λ t. with_receiver t l) (e.session ∙ ap miss_session s)
          ∙ by_yes _ _ _ _ answer;
    }

pub returns-in-Err : goal.returns-in-Err
unfolding answered
returns-in-Err c =
    let (four, s) = found _ _ _ c.in-Some.ensures in
    let answer = c.in-Err.ensures.answer ∙ ap miss_answer s in
    record { answer = c.into.ensures ∙ number_no _ _ answer ∙ cond_yes _ _ _ four; session = by_no _ _ _ _ answer }
