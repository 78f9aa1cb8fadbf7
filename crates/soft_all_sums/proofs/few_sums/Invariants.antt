-- The outer loop's invariant: each pair of sums has the first j votes; the inner one's: those below k have one more.
use Prim.Native.Nat.{◌+◌, ◌-◌, ◌≤◌}
use Rattle.soft_all_sums.specs.Internal.{votes_of, Stored, SumsTo}
use Rattle.soft_all_sums.proofs.few_sums.Given as goal

abbrev pub invariant-loop-k : goal.invariant-loop-k
invariant-loop-k g l =
    (l.k ≤ l.samples.m) × Stored (votes_of l.samples.re.now l.samples.im.now (l.j + 1)) 0 l.initial.few l.few l.k

abbrev pub decreases-loop-k : goal.decreases-loop-k
decreases-loop-k g l = l.samples.m - l.k

abbrev pub invariant-loop-j : goal.invariant-loop-j
invariant-loop-j g l = (l.j ≤ l.j-end) × SumsTo 0 l.samples.re.now l.samples.im.now l.j l.few l.samples.m

abbrev pub decreases-loop-j : goal.decreases-loop-j
decreases-loop-j g l = l.j-end - l.j
