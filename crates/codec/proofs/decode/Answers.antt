-- `decode` meets its contract, by its questions and by the reading.
use Rattle.std.specs.Prelude.{◌≡◌, Err}
use Rattle.std.proofs.Common.{rules, sym, ◌∙◌, ap, arith}
use Rattle.code_questions.specs.Internal.{refusal}
use Rattle.code_questions.specs.Refusal.{answered}
use Rattle.codec.specs.Codec.{reading_values}
use Rattle.codec.proofs.Accepted.{readable}
use Rattle.codec.proofs.ReadLaws.{decode_refused, decode_settled}
use Rattle.codec.proofs.decode.Goals as goal

pub returns-in_err-ask_word-clause-answer : goal.returns-in_err-ask_word-clause-answer
unfolding refusal answered
returns-in_err-ask_word-clause-answer c =
    let e : c.from_residual.result ≡ Err c.in_err-ask_word.field-0.0 = search rules in
    ap (answered reading_values) e ∙ (decode_refused _ _ _ _ _ c.in_err-ask_word.ensures).0

pub returns-in_err-ask_word-clause-buffer : goal.returns-in_err-ask_word-clause-buffer
unfolding refusal
returns-in_err-ask_word-clause-buffer c = (decode_refused _ _ _ _ _ c.in_err-ask_word.ensures).1

pub read-requires : goal.read-requires
unfolding refusal
read-requires c =
    let r = readable _ _ _ _ (sym c.in_ok-ask_word.ensures) in
    (r.well_formed, omega (arith, r.sized.message))

pub returns : goal.returns
unfolding refusal
returns c =
    let d = decode_settled _ _ _ _ (sym c.in_ok-ask_word.ensures) _ _ c.read.ensures in
    record { answer = ap (answered reading_values) c.ok_or.ensures.value ∙ d.0; buffer = d.1 }
