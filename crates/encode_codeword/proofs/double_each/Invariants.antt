-- The loop's invariant: the first i places of the upper half are filled.
use Rattle.encode_codeword.proofs.Doubling.{Filled}
use Rattle.encode_codeword.proofs.double_each.Given as goal

abbrev pub invariant-loop-i : goal.invariant-loop-i
invariant-loop-i l = Filled l.q l.a l.x-items l.initial.high l.high l.i
