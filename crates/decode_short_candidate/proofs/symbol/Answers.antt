-- `symbol` meets its contract.
use native.Mathlib.Omega.{arith}
use Rattle.code_theory.proofs.QuestionLaws.{alphabet_positive}
use Rattle.decode_short_candidate.proofs.ChoiceLaws.{symbol_is}
use Rattle.decode_short_candidate.proofs.symbol.Goals as goal

pub overflow_sub-result : goal.overflow_sub-result
overflow_sub-result c = omega (arith, alphabet_positive c.args.q c.requires)

pub returns : goal.returns
returns c = symbol_is c.args.q c.args.x c.requires
