-- The loop's invariant: the first a entries of the row are filled.
use Rattle.decode_long_tally.specs.Internal.{Row}
use Rattle.decode_long_tally.proofs.row.Given as goal

abbrev pub invariant-loop-a : goal.invariant-loop-a
invariant-loop-a l = Row l.b l.initial.table l.table l.a
