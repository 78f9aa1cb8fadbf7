-- `high_sums` meets its contract. The outer loop's invariant: the sums of the first 8 b votes; the inner one's: those below k have eight
-- more.
use Prim.Native.Nat.{◌+◌, ◌*◌, ◌-◌, ◌≤◌}
use mathlib.Core.Path.{◌≡◌}
use lib.ListN.{length}
use Rattle.soft_all_sums.specs.Internal.{votes_of, Stored, SumsTo}
use Rattle.soft_all_sums.proofs.high_sums.Given as goal

abbrev pub invariant-loop-k : goal.invariant-loop-k
invariant-loop-k l =
    (2 ≤ l.k) × (l.k ≤ l.samples.m) × Stored (votes_of l.samples.re.now l.samples.im.now (8 * (l.b + 1))) 2 l.initial.all l.all l.k

abbrev pub decreases-loop-k : goal.decreases-loop-k
decreases-loop-k l = l.samples.m - l.k

abbrev pub invariant-loop-b : goal.invariant-loop-b
invariant-loop-b l =
    (l.b ≤ l.b-end) × (length l.rows ≡ 8) × SumsTo 2 l.samples.re.now l.samples.im.now (8 * l.b) l.all l.samples.m

abbrev pub decreases-loop-b : goal.decreases-loop-b
decreases-loop-b l = l.b-end - l.b
