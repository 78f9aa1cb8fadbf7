-- The loop's invariant: s has so many votes of the row more.
use Prim.Native.Nat.{◌+◌, ◌*◌}
use mathlib.Core.Path.{◌≡◌}
use lib.ListN.{length}
use Rattle.soft_vote_sums.specs.Pair.{pair}
use Rattle.soft_all_sums.specs.Internal.{votes_of}
use Rattle.soft_all_sums.proofs.add_row.Given as goal

abbrev pub invariant-loop-re : goal.invariant-loop-re
invariant-loop-re l = pair l.s ≡ votes_of l.fn.samples.re.now l.fn.samples.im.now (8 * l.fn.b + length l.yielded) l.fn.k
