-- `compare_soft_read` meets its contract, case by case.
use mathlib.Core.Path.{◌∙◌}
use Rattle.code_theory.proofs.QuestionLaws.{number_yes, number_no}
use Rattle.code_questions.specs.Refusal.{answered, no_values}
use Rattle.compare_soft.proofs.compare_soft_read.Goals as goal

pub returns-in-Ok : goal.returns-in-Ok
unfolding answered no_values
returns-in-Ok c =
    let r = c.in-Ok.ensures in
    record { answer = number_yes _ _ r.answer; buffer = r.buffer }

pub returns-in-Err : goal.returns-in-Err
unfolding answered
returns-in-Err c =
    let r = c.in-Err.ensures in
    record { answer = c.from.ensures ∙ number_no _ _ r.answer; buffer = r.buffer }
