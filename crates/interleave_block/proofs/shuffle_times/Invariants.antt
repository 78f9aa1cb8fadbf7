-- The loop's invariant: as many rounds are done as the loop has made.
use Prim.Native.Nat.{◌-◌, ◌≤◌}
use mathlib.Core.Path.{◌≡◌}
use lib.ListN.{length}
use Rattle.interleave_shuffle.proofs.ShuffleLaws.{Rounds}
use Rattle.interleave_block.proofs.shuffle_times.Given as goal

abbrev pub invariant-loop-k : goal.invariant-loop-k
invariant-loop-k l = (l.k ≤ l.times) × (length l.apart ≡ 256) × (length l.row ≡ 256) × Rounds l.k l.half l.from l.row

abbrev pub decreases-loop-k : goal.decreases-loop-k
decreases-loop-k l = l.times - l.k
