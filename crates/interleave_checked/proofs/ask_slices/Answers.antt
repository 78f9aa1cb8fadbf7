-- `ask_slices` meets its contract. Both sizes are refused with 7, so no answer tells which of them is asked first; this proof does.
use Rattle.std.proofs.lemmas.Result.{err_from_is_err_and}
use Rattle.code_questions.specs.Internal.{refusal}
use Rattle.interleave_checked.proofs.SlicesLaws.{source_no}
use Rattle.interleave_checked.proofs.ask_slices.Goals as goal

pub returns-in_err-ask : goal.returns-in_err-ask
unfolding refusal
returns-in_err-ask c =
    let p = err_from_is_err_and c.from_residual.result c.from_residual.ensures.1 in
    rw (p.1, p.2) (source_no _ _ _ _ _ c.in_err-ask.ensures)
