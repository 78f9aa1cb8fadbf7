-- `list_round` meets its contract, by what the read gave.
use Rattle.std.proofs.Common.{rules, arith, refl, sym, ap, ◌∙◌}
use lib.Seq.{length-take-le}
use Rattle.text_buffer.proofs.PutLaws.{put_none}
use Rattle.text_chunks.specs.Reading.{given, after_failure}
use Rattle.text_chunks.proofs.ReadingLaws.{given_room}
use Rattle.list_stream.proofs.RoundLaws.{round_failed}
use Rattle.list_stream.proofs.list_round.Goals as goal

pub slice_bounds-list_part-end : goal.slice_bounds-list_part-end
unfolding given
slice_bounds-list_part-end c =
    sym (length-take-le _ c.args.chunk.now (omega (arith, c.requires.2, ap given c.in-Ok.is)))

pub list_part-requires : goal.list_part-requires
unfolding given
list_part-requires c =
    let n = ap given c.in-Ok.is in
    (c.requires.0, given_room c.args.chunk.now _ _ (omega (arith, c.requires.2, n)) (omega (arith, c.requires.3, n)))

pub returns-in-Err : goal.returns-in-Err
returns-in-Err c =
    round_failed _ _ _ _ _ _ _ _ c.args.read _ c.in-Err.is
    (record { lister = refl; kept = refl; count = refl; buffer = sym (put_none _ 0); then = c.after_failure.ensures ∙ ap after_failure (search rules); room = omega arith; fit = c.requires.0 })
