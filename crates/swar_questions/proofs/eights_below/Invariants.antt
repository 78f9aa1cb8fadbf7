-- The loop's invariant: the test so far tells of the first 8 c symbols.
use Rattle.std.proofs.Common.{◌*◌}
use Rattle.code_questions.specs.Internal.{Tells}
use Rattle.swar_questions.proofs.eights_below.Given as goal

abbrev pub invariant-loop-c : goal.invariant-loop-c
invariant-loop-c g l = Tells l.below l.q (8 * l.c) l.s 0
