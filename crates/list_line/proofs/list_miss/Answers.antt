-- `list_miss` meets its contract, by the cases of Miss's answer.
use mathlib.Core.Path.{ap, ◌∙◌}
use Rattle.text_buffer.proofs.PutLaws.{written_as}
use Rattle.text_buffer.specs.Text.{bytes, spaced}
use Rattle.list_line.specs.Listing.{missed_text, over_text}
use Rattle.list_line.proofs.TextLaws.{missed_pieces}
use Rattle.list_line.proofs.SlotLaws.{missed_number, told_missed, told_missed_over, missed_room, listed_as}
use Rattle.list_line.proofs.list_miss.Goals as goal

pub slot_time-requires : goal.slot_time-requires
slot_time-requires c =
    let e = c.miss.ensures in
    missed_room c.args.receiver (missed_number c.args.receiver _ e.answer e.session _ c.in-Ok.is)

pub returns-in-Ok : goal.returns-in-Ok
unfolding bytes
returns-in-Ok c =
    let e = c.miss.ensures in
    let w = c.put_event.ensures in
    listed_as c.args.receiver _ _ _ _ c.args.out.now c.args.at _ _ (told_missed c.args.receiver _ e.answer e.session _ c.in-Ok.is)
    (written_as (missed_pieces _ ∙ ap missed_text c.slot_time.ensures) (record { place = w.place; buffer = w.buffer }))

pub returns-in-Err : goal.returns-in-Err
unfolding over_text spaced bytes
returns-in-Err c =
    let e = c.miss.ensures in
    let w = c.put_text.ensures in
    listed_as c.args.receiver _ _ _ _ c.args.out.now c.args.at _ _ (told_missed_over c.args.receiver _ e.answer e.session _ c.in-Err.is)
    (record { place = w.place; buffer = w.buffer })
