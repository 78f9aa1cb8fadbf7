-- `compare_unpack` meets its contract: the number for each answer of unpack.
use Rattle.std.proofs.Common.{ap, ◌∙◌}
use Rattle.code_questions.specs.Refusal.{answered}
use Rattle.strap.specs.Strap.{report_values}
use Rattle.compare_strap.specs.Internal.{unpack_number}
use Rattle.compare_strap.proofs.compare_unpack.Goals as goal

pub returns-in-Ok : goal.returns-in-Ok
unfolding unpack_number answered report_values
returns-in-Ok c = rw (c.from.ensures, c.from-in-Ok.ensures) (ap unpack_number c.in-Ok.ensures)

pub returns-in-Err : goal.returns-in-Err
unfolding unpack_number answered
returns-in-Err c = c.into.ensures ∙ ap unpack_number c.in-Err.ensures
