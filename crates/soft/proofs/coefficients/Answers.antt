-- `coefficients` meets its contract, by the number of samples.
use native.Mathlib.Omega.{arith}
use Rattle.soft.proofs.ReadLaws.{both_told}
use Rattle.soft.proofs.coefficients.Goals as goal

pub returns-then-samples-eq2 : goal.returns-then-samples-eq2
returns-then-samples-eq2 c = both_told c.args.samples.m _ _ _ _ (omega arith) c.decide_both.ensures
