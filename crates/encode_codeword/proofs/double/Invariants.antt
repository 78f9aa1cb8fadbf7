-- The loop's invariant: the first 8 c places of the upper half are filled.
use Rattle.std.proofs.Common.{◌*◌}
use Rattle.encode_codeword.proofs.Doubling.{Filled}
use Rattle.encode_codeword.proofs.double.Given as goal

abbrev pub invariant-loop-c : goal.invariant-loop-c
invariant-loop-c l = Filled l.q l.a l.low l.initial.high l.high (8 * l.c)
