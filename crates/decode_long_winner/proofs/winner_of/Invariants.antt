-- The loop's invariant: a and b are the tallies with v - 1 digits taken off, and r leads among the values below v.
use Prim.Native.Nat.{◌≤◌, ◌*◌, ◌-◌, ◌/◌, ◌^◌}
use mathlib.Core.Path.{◌≡◌}
use Rattle.decode_long_winner.specs.Internal.{Leads, together}
use Rattle.decode_long_winner.proofs.winner_of.Given as goal

abbrev pub invariant-loop-v : goal.invariant-loop-v
invariant-loop-v l =
    (1 ≤ l.v) × (l.v ≤ l.q) × (l.a ≡ l.t / 2 ^ (8 * (l.v - 1))) × (l.b ≡ l.u / 2 ^ (8 * (l.v - 1))) × Leads l.v (together l.t l.u) l.r.symbol l.r.votes l.r.next

abbrev pub decreases-loop-v : goal.decreases-loop-v
decreases-loop-v l = l.q - l.v
