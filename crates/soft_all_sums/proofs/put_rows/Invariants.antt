-- The loop's invariant: the rows below k are put.
use Prim.Native.Nat.{◌-◌, ◌≤◌}
use Rattle.soft_all_sums.specs.Internal.{Rows}
use Rattle.soft_all_sums.proofs.put_rows.Given as goal

abbrev pub invariant-loop-k : goal.invariant-loop-k
invariant-loop-k l = (2 ≤ l.k) × (l.k ≤ l.samples.m) × Rows l.samples.re.now l.samples.im.now l.b l.rows l.k

abbrev pub decreases-loop-k : goal.decreases-loop-k
decreases-loop-k l = l.samples.m - l.k
