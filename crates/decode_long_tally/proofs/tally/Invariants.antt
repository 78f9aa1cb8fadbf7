-- The loop's invariant: t is the sum of the units of the first j ballots.
use Prim.Native.Nat.{◌-◌, ◌^◌, ◌≤◌}
use mathlib.Core.Path.{◌≡◌}
use Rattle.decode_long_tally.proofs.TallyLaws.{Balloted}
use Rattle.decode_long_tally.proofs.tally.Given as goal

abbrev pub invariant-loop-j : goal.invariant-loop-j
invariant-loop-j l = (l.j ≤ l.j-end) × (l.j-end ≡ 2 ^ (l.m - 5)) × Balloted l.q l.m l.k l.x l.j l.t

abbrev pub decreases-loop-j : goal.decreases-loop-j
decreases-loop-j l = l.j-end - l.j
