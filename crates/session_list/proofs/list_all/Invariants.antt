-- The lister goes on from round to round.
use Prim.Native.Nat.{◌≤◌}
use lib.ListN.{length}
use Rattle.text_chunks.specs.Reading.{given}
use Rattle.list_stream.specs.Stream.{Fit}
use Rattle.session_list.proofs.list_all.Given as goal

abbrev pub invariant-loop : goal.invariant-loop
invariant-loop l =
    record {
      fit : Fit l.lister;
      room : 64 ≤ length l.out;
      got : given l.place.read ≤ length l.chunk;
      at : l.place.at ≤ given l.place.read;
    }
