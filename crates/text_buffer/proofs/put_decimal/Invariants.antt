-- The loop's invariant: the last digits stand behind the place of those that are left.
use mathlib.Core.Path.{◌≡◌}
use lib.ListN.{length}
use Rattle.text_buffer.proofs.DecimalLaws.{Behind}
use Rattle.text_buffer.proofs.put_decimal.Given as goal

abbrev pub invariant-loop-rest : goal.invariant-loop-rest
invariant-loop-rest l = (length l.out ≡ length l.initial.out) × Behind l.initial.out l.at l.n l.rest l.place l.out

abbrev pub decreases-loop-rest : goal.decreases-loop-rest
decreases-loop-rest l = l.rest
