-- The loop's invariant: the rows below b are filled.
use Prim.Native.Nat.{◌≤◌, ◌-◌}
use Rattle.decode_long_tally.specs.Internal.{Pairs}
use Rattle.decode_long_tally.proofs.pairs.Given as goal

abbrev pub invariant-loop-b : goal.invariant-loop-b
invariant-loop-b l = (l.b ≤ 8) × Pairs l.b l.table

abbrev pub decreases-loop-b : goal.decreases-loop-b
decreases-loop-b l = 8 - l.b
