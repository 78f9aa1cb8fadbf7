-- `is_sure` meets its contract, case by case.
use Rattle.soft_theory.specs.Decision.{is_sure}
use Rattle.soft_decision.specs.Voted.{voted}
use Rattle.soft_decision.proofs.is_sure.Goals as goal

pub returns-in-Sure : goal.returns-in-Sure
unfolding is_sure voted
returns-in-Sure c = rw c.in-Sure.is

pub returns-in-Unsure : goal.returns-in-Unsure
unfolding is_sure voted
returns-in-Unsure c = rw c.in-Unsure.is

pub returns-in-Refused : goal.returns-in-Refused
unfolding is_sure voted
returns-in-Refused c = rw c.in-Refused.is
