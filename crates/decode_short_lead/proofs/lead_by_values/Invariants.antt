-- The loop's invariant: bad and next are the sum and the maximum of the votes for 1 to v - 1.
use Prim.Native.Nat.{◌≤◌, ◌-◌}
use mathlib.Core.Path.{◌≡◌}
use Rattle.code_theory.specs.Internal.{sum_from1, max_from1}
use Rattle.swar_count.specs.Internal.{lanes_equal}
use Rattle.decode_short_lead.proofs.lead_by_values.Given as goal

abbrev pub invariant-loop-v : goal.invariant-loop-v
invariant-loop-v l =
    (1 ≤ l.v) × (l.v ≤ l.q) × (l.bad ≡ sum_from1 (l.v - 1) (lanes_equal l.x)) × (l.next ≡ max_from1 (l.v - 1) (lanes_equal l.x))

abbrev pub decreases-loop-v : goal.decreases-loop-v
decreases-loop-v l = l.q - l.v
