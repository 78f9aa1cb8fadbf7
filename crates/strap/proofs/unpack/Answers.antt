-- `unpack` meets its contract: what the questions give, the rate, and place 0.
use Rattle.std.proofs.Common.{ap, [], ◌∷◌, arith}
use Rattle.code_theory.specs.Sum.{at}
use Rattle.code_questions.proofs.RefusalLaws.{passed, passed_answer, stopped_answer}
use Rattle.strap.specs.Strap.{zone_of, unpack_answer, report_values}
use Rattle.strap.proofs.StrapLaws.{unpackable}
use Rattle.strap.proofs.unpack.Goals as goal

pub returns-in_err-ask_unpack : goal.returns-in_err-ask_unpack
unfolding unpack_answer
returns-in_err-ask_unpack c = stopped_answer _ _ _ c.in_err-ask_unpack.ensures _ _ _ c.from_residual.ensures.1

pub rate_of-requires : goal.rate_of-requires
rate_of-requires c = passed _ _ c.in_ok-ask_unpack.ensures

pub bounds-message-0 : goal.bounds-message-0
bounds-message-0 c = omega (arith, (unpackable _ (passed _ _ c.in_ok-ask_unpack.ensures)).size)

pub returns : goal.returns
unfolding unpack_answer report_values zone_of
returns c = passed_answer _ _ c.in_ok-ask_unpack.ensures _ _ _ (ap (λ x. x ∷ at c.args.message.now 0 ∷ []) c.rate_of.ensures)
