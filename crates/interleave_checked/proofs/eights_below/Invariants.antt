-- The loop's invariant: the bytes of all are those of the symbols passed, put together.
use Rattle.std.proofs.Common.{◌≡◌, ◌*◌, ◌≤◌, length, drop}
use Rattle.std.specs.Slice.Iter.{chunks_exact_rest, chunks_exact_size}
use Rattle.interleave_checked.proofs.EightLaws.{Gathered}
use Rattle.interleave_checked.proofs.eights_below.Given as goal

abbrev pub invariant-loop-eight : goal.invariant-loop-eight
invariant-loop-eight l =
    (chunks_exact_size l.eight-iterator ≡ 8) × (chunks_exact_rest l.eight-iterator ≡ drop (8 * length l.yielded) l.s) × (8 * length l.yielded ≤ length l.s)
    × Gathered l.s 0 (length l.yielded) l.all
