-- `constant` meets its contract: what found holds are the coefficients.
use mathlib.Core.Path.{refl, ap, ◌∙◌}
use native.Mathlib.Omega.{arith}
use Rattle.soft_decision.specs.Internal.{sure_symbol}
use Rattle.soft.proofs.ReadLaws.{found_coefficients, constant_found, four_found, four_constant}
use Rattle.soft.proofs.constant.Goals as goal

pub four_sums-requires : goal.four_sums-requires
four_sums-requires c = (omega arith, four_found _ _ _ _ (omega arith) c.requires)

pub returns-then-samples-eq2 : goal.returns-then-samples-eq2
returns-then-samples-eq2 c =
    four_constant _ _ _ _ _ _ (omega arith) c.requires c.four_sums.ensures (c.symbol.ensures ∙ ap sure_symbol c.decision.ensures)

pub quarter_turns-requires : goal.quarter_turns-requires
quarter_turns-requires c =
    (c.args.samples.low, c.args.samples.high, found_coefficients _ _ _ _ c.requires, refl)

pub returns : goal.returns
returns c =
    constant_found _ _ _ _ _ _ c.requires c.constant_sums.ensures (c.symbol-2.ensures ∙ ap sure_symbol c.decision-2.ensures)
