-- The loop's invariant: the sum of the constant and the first k coefficients that the index has, each at most 7.
use Rattle.std.proofs.Common.{◌≡◌, ◌+◌, ◌*◌, ◌≤◌}
use Rattle.code_theory.specs.Sum.{at}
use Rattle.encode_codeword.specs.Internal.{unreduced}
use Rattle.encode_codeword.proofs.place.Given as goal

abbrev pub invariant-loop-k : goal.invariant-loop-k
invariant-loop-k l = record { same : l.sum ≡ unreduced l.k (at l.s) l.i; few : l.sum ≤ 7 + 7 * l.k }
