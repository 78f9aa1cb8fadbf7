-- `rm_write` meets its contract: the number for each answer of encode.
use mathlib.Core.Path.{sym, ◌∙◌}
use Rattle.code_theory.proofs.QuestionLaws.{after_yes, after_no}
use Rattle.codec.proofs.Answers.{encode_written, encode_number_lem}
use Rattle.rm_c.specs.CForm.{numbered, write_number}
use Rattle.rm_c.proofs.rm_write.Goals as goal

pub returns-in-Ok : goal.returns-in-Ok
unfolding write_number numbered
returns-in-Ok c =
    let d = c.encode in
    record {
      answer = sym (after_yes _ _ _ (encode_written c.args.q c.args.m c.args.message.now c.args.word.now d.result d.ensures.answer _ c.in-Ok.is));
      buffer = d.ensures.buffer;
    }

pub returns-in-Err : goal.returns-in-Err
unfolding write_number numbered
returns-in-Err c =
    let d = c.encode in
    let x = encode_number_lem c.args.q c.args.m c.args.message.now c.args.word.now d.result d.ensures.answer c.in-Err.refusal c.in-Err.is in
    record {
      answer = c.into.ensures ∙ x.0 ∙ sym (after_no _ _ _ x.1);
      buffer = d.ensures.buffer;
    }
