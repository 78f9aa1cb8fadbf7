-- The loop's invariant: the first j numbers are loaded.
use Rattle.std.proofs.Common.{ℕ, ◌<◌, ◌*◌}
use Rattle.code_theory.specs.Sum.{at}
use Rattle.swar_lanes.specs.Internal.{Held}
use Rattle.swar_lanes.proofs.load.Given as goal

abbrev pub invariant-loop-j : goal.invariant-loop-j
invariant-loop-j l = (i : ℕ) → i < l.j → Held l.word (16 * i) (at l.packed i)
