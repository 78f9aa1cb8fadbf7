-- `put_event` meets its contract: the time and the space, which take at most 11 bytes, and the text behind them.
use native.Mathlib.Omega.{arith}
use Rattle.text_buffer.proofs.PutLaws.{written_then}
use Rattle.list_line.proofs.TextLaws.{field_length}
use Rattle.list_line.proofs.put_event.Goals as goal

pub put_field-next-requires : goal.put_field-next-requires
put_field-next-requires c = omega (arith, c.requires, field_length c.args.ms 32 (omega (arith, c.ranges.ms)))

pub put_text-requires : goal.put_text-requires
put_text-requires c =
    omega (arith, c.requires, field_length c.args.ms 32 (omega (arith, c.ranges.ms)), c.put_field-next.ensures.place, c.put_field-next.auto.out)

pub returns : goal.returns
returns c =
    let f = c.put_field-next.ensures in
    let t = c.put_text.ensures in
    let short = field_length c.args.ms 32 (omega (arith, c.ranges.ms)) in
    let w = written_then c.args.out.now c.args.at _ _ _ _ _ _ (omega (arith, c.requires, short)) (record { place = f.place; buffer = f.buffer })
    (record { place = t.place; buffer = t.buffer }) in
    record {
      place = w.place;
      buffer = w.buffer;
    }
