-- `compare_decode` meets its contract: the number for each answer of decode.
use Rattle.std.proofs.Common.{◌+◌, ◌*◌, sym, ◌∙◌, ap₂}
use Rattle.code_theory.proofs.QuestionLaws.{after_yes, after_no}
use Rattle.codec.proofs.Answers.{decode_read, decode_number_lem}
use Rattle.compare_codec.specs.Internal.{decode_number}
use Rattle.compare_codec.proofs.compare_decode.Goals as goal

pub returns-in-Ok-clause-answer : goal.returns-in-Ok-clause-answer
unfolding decode_number
returns-in-Ok-clause-answer c =
    let x = decode_read _ _ _ _ _ c.decode.ensures.answer _ c.in-Ok.is in
    ap₂ (λ a b. 1000000 + 1000 * a + b) (c.from.ensures ∙ x.1) (c.from-in-Ok.ensures ∙ x.2) ∙ sym (after_yes _ _ _ x.0)

pub returns-in-Err-clause-answer : goal.returns-in-Err-clause-answer
unfolding decode_number
returns-in-Err-clause-answer c =
    let x = decode_number_lem _ _ _ _ _ c.decode.ensures.answer _ c.in-Err.is in
    c.from-in-Err-2.ensures ∙ c.from-in-Err.ensures ∙ x.0 ∙ sym (after_no _ _ _ x.1)
