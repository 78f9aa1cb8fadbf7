-- `read_line` meets its contract: a slot is listed at once, anything else is read by `read_part`.
use Rattle.std.proofs.Common.{rules, ◌≡◌, []}
use mathlib.Core.Path.{sym, ◌∙◌}
use native.Mathlib.Omega.{arith}
use lib.ListN.{take}
use lib.Seq.{length-take-le}
use Rattle.text_lines.specs.Line.{slot, word_of}
use Rattle.text_lines.proofs.EndingLaws.{slot_ends}
use Rattle.text_chunks.proofs.LineLaws.{slot_line}
use Rattle.text_chunks.specs.Kept.{kept_bytes}
use Rattle.list_stream.proofs.StreamLaws.{line_fit, reads_line}
use Rattle.list_stream.proofs.read_line.Goals as goal

pub slice_bounds-list_slot-end : goal.slice_bounds-list_slot-end
slice_bounds-list_slot-end c =
    let bytes = c.args.bytes.now in
    sym (length-take-le 16 bytes (omega (arith, (slot_ends bytes (sym c.has_slot.ensures ∙ c.if-has_slot.true)).0)))

pub list_slot-requires : goal.list_slot-requires
list_slot-requires c = (
  record { alphabet = c.requires.fit.alphabet; variables = c.requires.fit.variables; room = c.requires.room },
  (slot_ends c.args.bytes.now (sym c.has_slot.ensures ∙ c.if-has_slot.true)).2,
)

pub after_line-requires : goal.after_line-requires
after_line-requires c =
    line_fit c.args.lister _ _ c.requires.fit c.list_slot.ensures.session

pub returns-then-has_slot : goal.returns-then-has_slot
returns-then-has_slot c =
    let a = c.args in
    let yes = sym c.has_slot.ensures ∙ c.if-has_slot.true in
    let f = slot_ends a.bytes.now yes in
    let e = c.list_slot.ensures in
    let none : kept_bytes a.line.now ≡ [] = search rules in
    reads_line a.lister (kept_bytes a.line.now) a.bytes.now a.out.now a.at c.requires (slot (word_of (take 16 a.bytes.now)))
    c.list_slot.result 17 _ _ _ none (omega (arith, f.1)) (omega (arith, f.0, f.1)) (slot_line (kept_bytes a.line.now) a.bytes.now none yes)
    e.session e.ends (record { place = e.place; buffer = e.buffer }) c.after_line.ensures
