-- The loop's invariant: the symbols passed are copied, and nothing else is changed.
use Prim.Native.Nat.{◌-◌, ◌≤◌}
use Rattle.interleave_block.specs.Internal.{Copied}
use Rattle.interleave_block.proofs.copy.Given as goal

abbrev pub invariant-loop-k : goal.invariant-loop-k
invariant-loop-k l = (l.k ≤ l.n) × Copied l.k l.from l.i l.initial.to l.to l.j

abbrev pub decreases-loop-k : goal.decreases-loop-k
decreases-loop-k l = l.n - l.k
