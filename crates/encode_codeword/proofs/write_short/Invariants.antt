-- The loop's invariant: the word of k coefficients is written.
use Rattle.encode_codeword.specs.Internal.{Written}
use Rattle.encode_codeword.proofs.write_short.Given as goal

abbrev pub invariant-loop-k : goal.invariant-loop-k
invariant-loop-k g l = Written l.q l.k l.message l.fn.word l.word
