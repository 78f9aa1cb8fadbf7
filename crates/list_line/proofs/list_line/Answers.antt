-- `list_line` meets its contract, by the kinds of a line.
use mathlib.Core.Path.{sym, ap, ◌∙◌}
use Rattle.text_buffer.specs.Text.{bytes, spaced}
use Rattle.text_lines.specs.Internal.{line_of}
use Rattle.list_line.specs.Listing.{bad_text}
use Rattle.text_lines.proofs.LineLaws.{slot_reads}
use Rattle.list_line.proofs.SlotLaws.{relisted, listed_as, told_bad}
use Rattle.list_line.proofs.list_line.Goals as goal

pub list_slot-requires : goal.list_slot-requires
unfolding line_of
list_slot-requires c =
    let line = c.args.line.now in
    (c.requires, slot_reads line _ (ap (λ x. line_of x line) (sym c.in-Slot.is) ∙ c.kind_of.ensures))

pub returns-in-Slot : goal.returns-in-Slot
unfolding line_of
returns-in-Slot c =
    let line = c.args.line.now in
    relisted c.args.receiver _ _ _ _ c.args.out.now c.args.at _ _ (ap (λ x. line_of x line) (sym c.in-Slot.is) ∙ c.kind_of.ensures)
    c.list_slot.ensures

pub returns-in-Miss : goal.returns-in-Miss
unfolding line_of
returns-in-Miss c =
    let line = c.args.line.now in
    relisted c.args.receiver _ _ _ _ c.args.out.now c.args.at _ _ (ap (λ x. line_of x line) (sym c.in-Miss.is) ∙ c.kind_of.ensures)
    c.list_miss.ensures

pub returns-in-Bad : goal.returns-in-Bad
unfolding line_of bad_text spaced bytes
returns-in-Bad c =
    let line = c.args.line.now in
    let w = c.put_text.ensures in
    relisted c.args.receiver _ _ _ _ c.args.out.now c.args.at _ _ (ap (λ x. line_of x line) (sym c.in-Bad.is) ∙ c.kind_of.ensures)
    (listed_as c.args.receiver _ _ _ _ c.args.out.now c.args.at _ _ (told_bad c.args.receiver) (record { place = w.place; buffer = w.buffer }))
