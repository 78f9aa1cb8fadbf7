-- The loop's invariant: the bytes passed are listed.
use Prim.Native.Nat.{◌≤◌, ◌-◌}
use lib.ListN.{length, take}
use Rattle.text_chunks.specs.Kept.{kept_bytes}
use Rattle.text_chunks.proofs.PartLaws.{Run}
use Rattle.list_stream.specs.Stream.{reader, progress, Fit}
use Rattle.list_stream.proofs.feed.Given as goal

abbrev pub invariant-loop-fed : goal.invariant-loop-fed
invariant-loop-fed l =
    (l.fed.read ≤ length l.chunk) × Fit l.fed.lister × Run reader (progress l.fn.lister (kept_bytes l.initial.line)) l.initial.out (take l.fed.read l.chunk) (progress l.fed.lister (kept_bytes l.line)) l.fed.written l.out

abbrev pub decreases-loop-fed : goal.decreases-loop-fed
decreases-loop-fed l = length l.chunk - l.fed.read
