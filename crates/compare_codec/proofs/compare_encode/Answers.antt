-- `compare_encode` meets its contract: the number for each answer of encode.
use Rattle.std.proofs.Common.{sym, ◌∙◌}
use Rattle.code_theory.proofs.QuestionLaws.{after_yes, after_no}
use Rattle.codec.proofs.Answers.{encode_written, encode_number_lem}
use Rattle.compare_codec.specs.Internal.{encode_number}
use Rattle.compare_codec.proofs.compare_encode.Goals as goal

pub returns-in-Ok-clause-answer : goal.returns-in-Ok-clause-answer
unfolding encode_number
returns-in-Ok-clause-answer c = sym (after_yes _ _ _ (encode_written _ _ _ _ _ c.encode.ensures.answer _ c.in-Ok.is))

pub returns-in-Err-clause-answer : goal.returns-in-Err-clause-answer
unfolding encode_number
returns-in-Err-clause-answer c =
    let x = encode_number_lem _ _ _ _ _ c.encode.ensures.answer _ c.in-Err.is in
    c.from-in-Err.ensures ∙ c.from.ensures ∙ x.0 ∙ sym (after_no _ _ _ x.1)
