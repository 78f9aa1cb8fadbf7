-- `decide_both` meets its contract: the two decisions, one after the other.
use mathlib.Core.Path.{ap, ◌∙◌}
use Rattle.soft_decision.specs.Internal.{sure_symbol}
use Rattle.soft.proofs.ReadLaws.{both_none, both_some}
use Rattle.soft.proofs.decide_both.Goals as goal

pub returns-in_err-a : goal.returns-in_err-a
returns-in_err-a c =
    rw c.from_residual.ensures
    (both_none _ _ _ _ _ _ c.four_sums.ensures c.four_sums-2.ensures (c.symbol-a.ensures ∙ ap sure_symbol c.decision.ensures) (c.symbol-b.ensures ∙ ap sure_symbol c.decision-2.ensures) c.in_err-a.ensures)

pub returns : goal.returns
returns c =
    both_some _ _ _ _ _ _ c.four_sums.ensures c.four_sums-2.ensures (c.symbol-a.ensures ∙ ap sure_symbol c.decision.ensures) (c.symbol-b.ensures ∙ ap sure_symbol c.decision-2.ensures) _ _ c.args.found.now
    c.requires.1 c.requires.2 c.in_ok-a.ensures
