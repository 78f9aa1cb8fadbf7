-- `symbol` meets its contract, by whether the decision is sure.
use mathlib.Core.Path.{sym, ◌∙◌}
use Rattle.soft_decision.specs.Voted.{voted}
use Rattle.soft_decision.proofs.Floats.{told_sure, told_unsure}
use Rattle.soft_decision.proofs.SoftVote.symbol.Goals as goal

pub returns-then-is_sure : goal.returns-then-is_sure
returns-then-is_sure c =
    told_sure (voted c.args.self) _ (sym c.is_sure.ensures ∙ c.if-is_sure.true) c.symbol_of.ensures

pub returns-else-is_sure : goal.returns-else-is_sure
returns-else-is_sure c =
    told_unsure (voted c.args.self) (sym c.is_sure.ensures ∙ c.if-is_sure.false)
