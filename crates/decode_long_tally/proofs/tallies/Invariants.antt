-- The loop's invariant: the first k tallies stand.
use Prim.Native.Nat.{◌≤◌, ◌-◌}
use Rattle.decode_long_tally.specs.Internal.{TalliesOf}
use Rattle.decode_long_tally.proofs.tallies.Given as goal

abbrev pub invariant-loop-k : goal.invariant-loop-k
invariant-loop-k l = (l.k ≤ l.m) × TalliesOf l.q l.m l.x l.t l.k

abbrev pub decreases-loop-k : goal.decreases-loop-k
decreases-loop-k l = l.m - l.k
