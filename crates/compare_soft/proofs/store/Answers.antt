-- `store` meets its contract, by the length of the slice.
use Rattle.soft_vote_sums.specs.Pair.{pair}
use Rattle.compare_soft.proofs.StoreLaws.{stored, unstored}
use Rattle.compare_soft.proofs.store.Goals as goal

pub returns-then-sums-eq2 : goal.returns-then-sums-eq2
unfolding pair
returns-then-sums-eq2 c = stored (pair c.args.s) c.args.sums.now c.if-sums-eq2.true

pub returns-else-sums-eq2 : goal.returns-else-sums-eq2
unfolding pair
returns-else-sums-eq2 c = unstored (pair c.args.s) c.args.sums.now c.if-sums-eq2.false
