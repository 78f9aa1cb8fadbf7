-- The loop's invariant: the symbols of the rows passed stand where they must.
use Prim.Native.Nat.{◌-◌, ◌≤◌}
use mathlib.Core.Path.{◌≡◌}
use lib.ListN.{length}
use Rattle.interleave_rows.specs.Internal.{Scattered}
use Rattle.interleave_rows.proofs.columns.Given as goal

abbrev pub invariant-loop-w : goal.invariant-loop-w
invariant-loop-w l = (l.w ≤ l.a) × (length l.to ≡ length l.initial.to) × Scattered l.a l.b l.w 0 l.from l.to

abbrev pub decreases-loop-w : goal.decreases-loop-w
decreases-loop-w l = l.a - l.w
