-- `magnitude` meets its contract, by the bits of 0.
use mathlib.Core.Path.{◌∙◌}
use Rattle.soft_decision.proofs.Floats.{magnitude_is}
use Rattle.soft_decision.proofs.magnitude.Goals as goal

pub returns : goal.returns
returns c = c.pick.ensures ∙ magnitude_is c.args.x
