-- The loop's invariant: t is the sum of the units of the numbers so far.
use lib.ListN.{length}
use Rattle.decode_long_tally.proofs.TallyLaws.{Differing}
use Rattle.decode_long_tally.proofs.difference_tally.Given as goal

abbrev pub invariant-loop-a : goal.invariant-loop-a
invariant-loop-a l = Differing l.q l.x l.y (length l.yielded) l.t
