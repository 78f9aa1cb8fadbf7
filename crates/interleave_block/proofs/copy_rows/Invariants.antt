-- The loop's invariant: the rows passed are copied, and nothing else is changed.
use Prim.Native.Nat.{◌-◌, ◌≤◌}
use Rattle.interleave_block.specs.Internal.{RowsCopied}
use Rattle.interleave_block.proofs.copy_rows.Given as goal

abbrev pub invariant-loop-r : goal.invariant-loop-r
invariant-loop-r l = (l.r ≤ 16) × RowsCopied l.r l.from l.i l.a l.initial.to l.to l.j l.b

abbrev pub decreases-loop-r : goal.decreases-loop-r
decreases-loop-r l = 16 - l.r
