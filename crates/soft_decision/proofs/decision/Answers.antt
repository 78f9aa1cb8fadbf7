-- `decision` meets its contract: sure by the magnitudes, and the symbol of the larger one.
use mathlib.Core.Path.{ap}
use mathlib.Core.Bool.{not}
use Rattle.soft_vote_sums.specs.Pair.{pair}
use Rattle.soft_decision.specs.Voted.{voted}
use Rattle.soft_decision.proofs.Floats.{by_unsure, by_sure}
use Rattle.soft_decision.proofs.decision.Goals as goal

pub returns-then-not-is_decisive : goal.returns-then-not-is_decisive
unfolding voted pair
returns-then-not-is_decisive c =
    by_unsure (pair c.args.s) c.magnitude-a.result c.magnitude-b.result c.is_decisive.result
    c.magnitude-a.ensures c.magnitude-b.ensures c.is_decisive.ensures (ap not c.if-not-is_decisive.true)

pub returns : goal.returns
unfolding voted pair
returns c =
    by_sure (pair c.args.s) c.magnitude-a.result c.magnitude-b.result c.is_decisive.result c.magnitude-a.ensures
    c.magnitude-b.ensures c.is_decisive.ensures (ap not c.if-not-is_decisive.false) c.pick-real.result c.pick-imaginary.result c.pick.result
    c.pick-real.ensures c.pick-imaginary.ensures c.pick.ensures
