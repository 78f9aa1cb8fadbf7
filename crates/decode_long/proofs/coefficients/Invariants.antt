-- The loop's invariant: the winners of the first k coefficients stand in the message.
use Rattle.decode_long.specs.Internal.{FirstWinnersOf}
use Rattle.decode_long.proofs.coefficients.Given as goal

abbrev pub invariant-loop-k : goal.invariant-loop-k
invariant-loop-k l = FirstWinnersOf l.q l.m l.t l.message l.k l.least
