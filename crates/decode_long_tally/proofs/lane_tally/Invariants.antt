-- The loop's invariant: t is the sum of the units of the lanes in the bytes so far.
use Prim.Native.Nat.{◌≤◌, ◌-◌, ◌*◌}
use mathlib.Core.Path.{◌≡◌}
use Rattle.decode_long_tally.proofs.TallyLaws.{lane_units}
use Rattle.decode_long_tally.proofs.lane_tally.Given as goal

abbrev pub invariant-loop-byte : goal.invariant-loop-byte
invariant-loop-byte l = l.t ≡ lane_units l.d (2 * l.byte-index)
