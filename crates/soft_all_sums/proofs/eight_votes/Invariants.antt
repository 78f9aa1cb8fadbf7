-- The loop's invariant: the row holds the first x votes.
use Prim.Native.Nat.{◌-◌, ◌≤◌}
use Rattle.soft_all_sums.specs.Internal.{Holds}
use Rattle.soft_all_sums.proofs.eight_votes.Given as goal

abbrev pub invariant-loop-x : goal.invariant-loop-x
invariant-loop-x l = (l.x ≤ 8) × Holds l.samples.re.now l.samples.im.now l.k l.b l.row l.x

abbrev pub decreases-loop-x : goal.decreases-loop-x
decreases-loop-x l = 8 - l.x
