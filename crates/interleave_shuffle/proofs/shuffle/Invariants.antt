-- The loop's invariant: the places passed are as they must be.
use Prim.Native.Nat.{◌*◌, ◌≤◌, ◌-◌}
use mathlib.Core.Path.{◌≡◌}
use lib.ListN.{length}
use Rattle.interleave_theory.specs.Internal.{Filled}
use Rattle.interleave_shuffle.proofs.shuffle.Given as goal

abbrev pub invariant-loop-i : goal.invariant-loop-i
invariant-loop-i l = (l.i ≤ l.half) × (length l.to ≡ length l.initial.to) × Filled 2 l.half (2 * l.i) l.from l.to

abbrev pub decreases-loop-i : goal.decreases-loop-i
decreases-loop-i l = l.half - l.i
