-- The loop's invariant: s is the sums of the first 2 b votes.
use Prim.Native.Nat.{◌*◌, ◌-◌, ◌/◌, ◌≤◌}
use mathlib.Core.Path.{◌≡◌}
use lib.ListN.{length}
use Rattle.soft_theory.specs.Numbers.{f32}
use Rattle.soft_theory.specs.Complex.{sample}
use Rattle.soft_theory.specs.Internal.{votes_to}
use Rattle.soft_vote_sums.specs.Pair.{pair}
use Rattle.soft_vote_sums.proofs.Samples.vote_sums.Given as goal

abbrev pub invariant-loop-b : goal.invariant-loop-b
invariant-loop-b l = (l.b ≤ l.b-end) × (l.b-end ≡ length l.self.re.now / 4) × (pair l.s ≡ votes_to f32 l.k (sample f32 l.self.re.now l.self.im.now) (2 * l.b))

abbrev pub decreases-loop-b : goal.decreases-loop-b
decreases-loop-b l = l.b-end - l.b
