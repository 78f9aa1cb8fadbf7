-- `list_word` meets its contract, by the cases of Receive's answer.
use mathlib.Core.Path.{ap, ◌∙◌}
use Rattle.text_buffer.proofs.PutLaws.{written_as}
use Rattle.strap.specs.Strap.{unpack_refusal}
use Rattle.text_buffer.specs.Text.{bytes, spaced}
use Rattle.list_line.specs.Listing.{doubtful_text, over_text}
use Rattle.list_line.proofs.TextLaws.{doubtful_pieces}
use Rattle.list_line.proofs.SlotLaws.{unpacks, read_number, told_read, doubtful_number, told_doubtful, told_over, doubtful_room, listed_as}
use Rattle.list_line.proofs.list_word.Goals as goal

pub rate_of-rate-requires : goal.rate_of-rate-requires
rate_of-rate-requires c =
    let e = c.receive.ensures in
    ap unpack_refusal e.buffer
    ∙ unpacks c.args.receiver _ _ c.requires.0.alphabet c.requires.0.variables (read_number c.args.receiver _ _ _ c.requires.1 e.answer e.session _ _ c.in-Ok.is c.in-Some.is)

pub slot_time-requires : goal.slot_time-requires
slot_time-requires c =
    let e = c.receive.ensures in
    doubtful_room c.args.receiver _ _ (doubtful_number c.args.receiver _ _ _ c.requires.1 e.answer e.session _ c.in-Ok.is c.in-None.is)

pub returns-in-Some : goal.returns-in-Some
returns-in-Some c =
    let e = c.receive.ensures in
    let w = c.put_reading.ensures in
    listed_as c.args.receiver _ _ _ _ c.args.out.now c.args.at _ _
    (told_read c.args.receiver _ _ _ c.requires.1 e.answer e.session _ _ c.in-Ok.is c.in-Some.is _ _ e.buffer c.rate_of-rate.ensures)
    (record { place = w.place; buffer = w.buffer })

pub returns-in-None : goal.returns-in-None
unfolding bytes
returns-in-None c =
    let e = c.receive.ensures in
    let w = c.put_event.ensures in
    listed_as c.args.receiver _ _ _ _ c.args.out.now c.args.at _ _
    (told_doubtful c.args.receiver _ _ _ c.requires.1 e.answer e.session _ c.in-Ok.is c.in-None.is)
    (written_as (doubtful_pieces _ ∙ ap doubtful_text c.slot_time.ensures) (record { place = w.place; buffer = w.buffer }))

pub returns-in_default : goal.returns-in_default
unfolding over_text spaced bytes
returns-in_default c =
    let e = c.receive.ensures in
    let w = c.put_text.ensures in
    listed_as c.args.receiver _ _ _ _ c.args.out.now c.args.at _ _
    (told_over c.args.receiver _ _ _ c.requires.1 e.answer e.session _ c.in_default.is)
    (record { place = w.place; buffer = w.buffer })
