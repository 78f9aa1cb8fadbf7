-- `put_field` meets its contract: the byte is stored behind the digits.
use native.Mathlib.Omega.{arith}
use Rattle.text_buffer.specs.Internal.{field}
use Rattle.text_buffer.proofs.DecimalLaws.{length_field}
use Rattle.text_buffer.proofs.PutLaws.{written_byte}
use Rattle.text_buffer.proofs.put_field.Goals as goal

pub put_decimal-next-requires : goal.put_decimal-next-requires
put_decimal-next-requires c = omega (arith, c.requires, length_field c.args.n c.args.end)

pub bounds-out-next : goal.bounds-out-next
bounds-out-next c =
    omega (arith, c.requires, length_field c.args.n c.args.end, c.put_decimal-next.ensures.place, c.put_decimal-next.auto.out)

pub overflow_add-result : goal.overflow_add-result
overflow_add-result c =
    omega (arith, c.requires, length_field c.args.n c.args.end, c.put_decimal-next.ensures.place, c.well_formed)

pub returns : goal.returns
unfolding field
returns c =
    let e = c.put_decimal-next.ensures in
    let w = written_byte c.args.out.now c.args.at _ _ c.args.end _ (omega (arith, c.requires, length_field c.args.n c.args.end))
    (record { place = e.place; buffer = e.buffer }) in
    record {
      place = w.place;
      buffer = w.buffer;
    }
