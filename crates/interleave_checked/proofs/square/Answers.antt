-- `square` meets its contract: the slices are asked about, and then the square is transposed.
use Rattle.std.proofs.Common.{refl}
use Rattle.std.proofs.lemmas.Result.{err_from_is_err_and}
use Rattle.code_questions.specs.Internal.{refusal}
use Rattle.interleave_checked.proofs.SlicesLaws.{sizes, checked_no, checked_yes}
use Rattle.interleave_checked.proofs.square.Goals as goal

pub returns-in_err-ask_square : goal.returns-in_err-ask_square
unfolding refusal
returns-in_err-ask_square c =
    let p = err_from_is_err_and c.from_residual.result c.from_residual.ensures.1 in
    rw (p.1, p.2) (checked_no _ _ _ _ _ _ refl _ c.in_err-ask_square.ensures)

pub square-requires : goal.square-requires
unfolding refusal
square-requires c =
    sizes _ _ _ _ c.in_ok-ask_square.ensures

pub returns : goal.returns
unfolding refusal
returns c = checked_yes _ _ _ _ _ _ refl _ c.in_ok-ask_square.ensures c.square.ensures
