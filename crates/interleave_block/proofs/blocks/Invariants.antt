-- The loop's invariant: the blocks passed are done.
use Prim.Native.Nat.{◌*◌, ◌/◌, ◌-◌, ◌≤◌}
use Rattle.interleave_block.specs.Internal.{Done}
use Rattle.interleave_block.proofs.blocks.Given as goal

abbrev pub invariant-loop-k : goal.invariant-loop-k
invariant-loop-k l = (l.k ≤ l.n / 16) × Done 16 l.n (16 * l.k) 0 l.from l.to

abbrev pub decreases-loop-k : goal.decreases-loop-k
decreases-loop-k l = l.n / 16 - l.k
