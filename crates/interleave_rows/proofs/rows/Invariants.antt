-- The loop's invariant: the rows passed are as they must be.
use Prim.Native.Nat.{◌*◌, ◌-◌, ◌≤◌}
use mathlib.Core.Path.{◌≡◌}
use lib.ListN.{length}
use Rattle.interleave_theory.specs.Internal.{Filled}
use Rattle.interleave_rows.proofs.rows.Given as goal

abbrev pub invariant-loop-s : goal.invariant-loop-s
invariant-loop-s l = (l.s ≤ l.b) × (length l.to ≡ length l.initial.to) × Filled l.a l.b (l.s * l.a) l.from l.to

abbrev pub decreases-loop-s : goal.decreases-loop-s
decreases-loop-s l = l.b - l.s
