-- The loop's invariant: the first i places are written.
use Rattle.std.proofs.Common.{ℕ, ◌≡◌, ◌<◌, ◌%◌}
use Rattle.code_theory.specs.Sum.{at}
use Rattle.encode_codeword.specs.Internal.{unreduced}
use Rattle.encode_codeword.proofs.write_each_of_64.Given as goal

abbrev pub invariant-loop-i : goal.invariant-loop-i
invariant-loop-i l = (j : ℕ) → j < l.i → at l.first j ≡ unreduced 6 (at l.s) j % l.q
