-- `list_slot` meets its contract: the word of the digits is listed.
use mathlib.Core.Path.{refl, ap, ◌∙◌}
use Rattle.text_lines.specs.Line.{slot}
use Rattle.list_line.specs.Listing.{blank}
use Rattle.list_line.proofs.SlotLaws.{relisted, of_session}
use Rattle.list_line.proofs.list_slot.Goals as goal

pub list_word-requires : goal.list_word-requires
unfolding blank
list_word-requires c =
    let p = c.requires.0 in
    let e = c.with_code.ensures in
    (record { alphabet = ap (λ r. r.q) e ∙ p.alphabet; variables = ap (λ r. r.m) e ∙ p.variables; room = p.room }, refl)

pub returns : goal.returns
returns c =
    of_session c.with_code.result c.args.receiver _ _ _ c.args.out.now c.args.at _ _ c.with_code.ensures
    (relisted c.with_code.result _ _ _ _ c.args.out.now c.args.at _ _ (ap slot c.fill_word.ensures) c.list_word.ensures)
