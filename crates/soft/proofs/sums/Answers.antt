-- `sums` meets its contract, by the number of samples.
use native.Mathlib.Omega.{arith}
use Rattle.soft.proofs.Refusals.{four_votes}
use Rattle.soft.proofs.sums.Goals as goal

pub returns-then-samples-eq2 : goal.returns-then-samples-eq2
returns-then-samples-eq2 c = four_votes c.args.samples.m _ _ _ _ (omega arith) c.four_sums.ensures
