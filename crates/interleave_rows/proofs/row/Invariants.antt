-- The loop's invariant: the places passed are as they must be.
use Prim.Native.Nat.{◌+◌, ◌*◌, ◌-◌, ◌≤◌}
use mathlib.Core.Path.{◌≡◌}
use lib.ListN.{length}
use Rattle.interleave_theory.specs.Internal.{Filled}
use Rattle.interleave_rows.proofs.row.Given as goal

abbrev pub invariant-loop-w : goal.invariant-loop-w
invariant-loop-w l = (l.w ≤ l.a) × (length l.to ≡ length l.initial.to) × Filled l.a l.b (l.s * l.a + l.w) l.from l.to

abbrev pub decreases-loop-w : goal.decreases-loop-w
decreases-loop-w l = l.a - l.w
