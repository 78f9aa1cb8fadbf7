-- `rm_read` meets its contract: the number for each answer of decode.
use Prim.Native.Nat.{◌+◌}
use mathlib.Core.Path.{sym, ◌∙◌, ap}
use native.Mathlib.Omega.{arith}
use Rattle.code_theory.proofs.QuestionLaws.{after_yes, after_no}
use Rattle.codec.proofs.Answers.{decode_read, decode_number_lem, decode_small}
use Rattle.rm_c.specs.CForm.{numbered, read_number}
use Rattle.rm_c.proofs.rm_read.Goals as goal

pub overflow_add-result : goal.overflow_add-result
overflow_add-result c =
    let d = c.decode in
    let small = decode_small _ _ _ _ d.result d.ensures.answer c.in-Ok.reading c.in-Ok.is in
    omega (arith, small.0, small.1)

pub returns-in-Ok : goal.returns-in-Ok
unfolding read_number numbered
returns-in-Ok c =
    let d = c.decode in
    let x = decode_read c.args.q c.args.m c.args.message.now c.args.word.now d.result d.ensures.answer c.in-Ok.reading c.in-Ok.is in
    record {
      answer = ap (λ w. 100 + w) x.1 ∙ sym (after_yes _ _ _ x.0);
      buffer = d.ensures.buffer;
    }

pub returns-in-Err : goal.returns-in-Err
unfolding read_number numbered
returns-in-Err c =
    let d = c.decode in
    let x = decode_number_lem c.args.q c.args.m c.args.message.now c.args.word.now d.result d.ensures.answer c.in-Err.refusal c.in-Err.is in
    record {
      answer = c.into.ensures ∙ x.0 ∙ sym (after_no _ _ _ x.1);
      buffer = d.ensures.buffer;
    }
