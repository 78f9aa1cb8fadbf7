-- `few_differ` meets its contract: before place i so many places differ, fewer than a quarter of all.
use Prim.Native.Nat.{◌-◌, ◌≤◌, ◌<◌}
use mathlib.Core.Path.{◌≡◌}
use lib.ListN.{length}
use Rattle.decode_near_places.specs.Internal.{differing}
use Rattle.decode_near_places.proofs.few_differ.Given as goal

abbrev pub invariant-loop-i : goal.invariant-loop-i
invariant-loop-i l = (l.n ≡ length l.word) × (l.i ≤ l.n) × (l.wrong < l.quarter) × (l.wrong ≡ differing l.code l.word 0 l.i)

abbrev pub decreases-loop-i : goal.decreases-loop-i
decreases-loop-i l = l.n - l.i
