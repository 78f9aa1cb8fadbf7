-- The loop's invariant: the rows before this one, and the symbols passed of it, stand where they must.
use Prim.Native.Nat.{◌-◌, ◌≤◌}
use mathlib.Core.Path.{◌≡◌}
use lib.ListN.{length}
use Rattle.interleave_rows.specs.Internal.{Scattered}
use Rattle.interleave_rows.proofs.column.Given as goal

abbrev pub invariant-loop-s : goal.invariant-loop-s
invariant-loop-s l = (l.s ≤ l.b) × (length l.to ≡ length l.initial.to) × Scattered l.a l.b l.w l.s l.from l.to

abbrev pub decreases-loop-s : goal.decreases-loop-s
decreases-loop-s l = l.b - l.s
