-- `compare_pack` meets its contract: the number for each answer of pack.
use Rattle.std.proofs.Common.{◌∙◌}
use Rattle.code_theory.proofs.QuestionLaws.{number_yes, number_no}
use Rattle.code_questions.specs.Refusal.{answered}
use Rattle.compare_strap.proofs.compare_pack.Goals as goal

pub returns-in-Ok : goal.returns-in-Ok
unfolding answered
returns-in-Ok c = record { answer = number_yes _ _ c.in-Ok.ensures.answer; buffer = c.pack.ensures.buffer }

pub returns-in-Err : goal.returns-in-Err
unfolding answered
returns-in-Err c = record { answer = c.into.ensures ∙ number_no _ _ c.in-Err.ensures.answer; buffer = c.pack.ensures.buffer }
