-- `put_reading` meets its contract: five pieces, one behind the other, each of at most 11 bytes.
use mathlib.Core.Path.{ap, ◌∙◌}
use native.Mathlib.Omega.{arith}
use Rattle.text_buffer.proofs.PutLaws.{written_as}
use Rattle.list_line.specs.Listing.{reading_text}
use Rattle.list_line.proofs.TextLaws.{field_length, reading_pieces, written_five}
use Rattle.list_line.proofs.put_reading.Goals as goal

pub returns : goal.returns
returns c =
    let a = c.args in
    let d = a.delivery in
    let r = c.from.result in
    let e₁ = c.put_field-second.ensures in
    let e₂ = c.put_field-third.ensures in
    let e₃ = c.put_zone-fourth.ensures in
    let e₄ = c.put_field-fifth.ensures in
    let e₅ = c.put_field.ensures in
    let w = written_five a.out.now a.at c.requires _ _ _ _ _ _ _ _ _ _ _ _ _ _ _ (field_length d.time 32 (omega arith)) (field_length r 32 (omega arith))
    (omega arith) (field_length d.wrong 32 (omega arith)) (field_length d.margin 10 (omega arith)) (record { place = e₁.place; buffer = e₁.buffer })
    (record { place = e₂.place; buffer = e₂.buffer }) (record { place = e₃.place; buffer = e₃.buffer })
    (record { place = e₄.place; buffer = e₄.buffer }) (record { place = e₅.place; buffer = e₅.buffer }) in
    let v = written_as (reading_pieces d.time r d.zone d.wrong d.margin ∙ ap (λ n. reading_text d.time n d.zone d.wrong d.margin) c.from.ensures) w in
    record { place = v.place; buffer = v.buffer }
