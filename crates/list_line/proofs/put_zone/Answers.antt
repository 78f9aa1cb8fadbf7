-- `put_zone` meets its contract, by the cases of the zone.
use mathlib.Core.Path.{sym, ap, ◌∙◌}
use mathlib.Core.List.{[], ◌∷◌, ◌++◌}
use native.Mathlib.Omega.{arith}
use Rattle.text_buffer.specs.Text.{bytes}
use Rattle.text_buffer.specs.Internal.{field}
use Rattle.text_buffer.proofs.PutLaws.{written_as}
use Rattle.list_line.specs.Listing.{zone_text}
use Rattle.list_line.proofs.TextLaws.{field_length}
use Rattle.list_line.proofs.put_zone.Goals as goal

pub put_field-requires : goal.put_field-requires
put_field-requires c = omega (arith, c.requires, field_length c.from.result 32 (omega arith))

pub returns-in-Some : goal.returns-in-Some
unfolding zone_text field
returns-in-Some c =
    let e = c.put_field.ensures in
    let w = written_as {b = c.args.out.now} {at = c.args.at}
    (ap (λ d. field d 32) c.from.ensures ∙ ap (λ x. zone_text x ++ (32 ∷ [])) (sym c.in-Some.is)) (record { place = e.place; buffer = e.buffer }) in
    record {
      place = w.place;
      buffer = w.buffer;
      small = omega (arith, e.place, field_length c.from.result 32 (omega arith));
    }

pub returns-in-None : goal.returns-in-None
unfolding zone_text bytes
returns-in-None c =
    let e = c.put_text.ensures in
    let w = written_as {b = c.args.out.now} {at = c.args.at} (ap (λ x. zone_text x ++ (32 ∷ [])) (sym c.in-None.is))
    (record { place = e.place; buffer = e.buffer }) in
    record {
      place = w.place;
      buffer = w.buffer;
      small = omega (arith, e.place);
    }
