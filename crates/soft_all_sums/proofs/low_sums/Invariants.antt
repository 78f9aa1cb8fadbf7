-- The loop's invariant: the sums below k are stored.
use Prim.Native.Nat.{◌-◌, ◌≤◌}
use Rattle.soft_all_sums.specs.Internal.{sums_of, Stored}
use Rattle.soft_all_sums.proofs.low_sums.Given as goal

abbrev pub invariant-loop-k : goal.invariant-loop-k
invariant-loop-k l =
    (l.k ≤ l.end) × Stored (sums_of l.samples.m l.samples.re.now l.samples.im.now) 0 l.initial.all l.all l.k

abbrev pub decreases-loop-k : goal.decreases-loop-k
decreases-loop-k l = l.end - l.k
