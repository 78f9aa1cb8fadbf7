-- The loop's invariant: the symbols of all parts asked about are below q.
use Rattle.std.proofs.Common.{◌≡◌, ◌*◌, ◌≤◌, true, length, drop}
use Rattle.std.specs.Slice.Iter.{chunks_exact_rest, chunks_exact_size}
use Rattle.code_questions.specs.Internal.{Tells}
use Rattle.interleave_checked.proofs.parts_below.Given as goal

abbrev pub invariant-loop-part : goal.invariant-loop-part
invariant-loop-part l =
    (chunks_exact_size l.part-iterator ≡ 512) × (chunks_exact_rest l.part-iterator ≡ drop (512 * length l.yielded) l.s) × (512 * length l.yielded ≤ length l.s)
    × Tells true l.q (512 * length l.yielded) l.s 0
