-- `near_7_or_8` meets its contract: in each case m is the literal, and any other m is above 8.
use Rattle.std.proofs.Common.{arith}
use Rattle.code_questions.specs.Refusal.{answered}
use Rattle.decode_near.proofs.NearLaws.{near_variables_no}
use Rattle.decode_near.proofs.near_7_or_8.Goals as goal

pub returns-in_default : goal.returns-in_default
unfolding answered
returns-in_default c =
    near_variables_no _ c.args.m _ _ c.requires.0 (λ low high. absurd (omega arith))
