-- `finish` meets its contract: nothing once the reading has ended or where no line has begun, else the last line.
use Rattle.std.proofs.Common.{rules, ◌≢◌, []}
use Rattle.text_lines.specs.Line.{read_line}
use Rattle.list_line.specs.Listing.{line_text}
use mathlib.Core.Path.{◌≡◌, sym, ap, ◌∙◌}
use native.Mathlib.Nat.{zero-add}
use native.Mathlib.Omega.{arith}
use lib.ListN.{length}
use Rattle.text_buffer.specs.Text.{put}
use Rattle.text_buffer.proofs.PutLaws.{put_none, put_fits, written_as}
use Rattle.text_chunks.specs.Kept.{kept_bytes}
use Rattle.text_chunks.specs.Chunks.{last_text}
use Rattle.text_chunks.proofs.StepLaws.{end_over, end_last}
use Rattle.list_stream.specs.Stream.{reader, progress}
use Rattle.list_stream.proofs.StreamLaws.{end_line, length_some}
use Rattle.list_stream.proofs.finish.Goals as goal

pub returns-then-lister : goal.returns-then-lister
unfolding progress
returns-then-lister c =
    let a = c.args in
    let e = end_over reader (progress a.lister (kept_bytes a.line.now)) c.if-lister.true in
    record {
      count = ap length (sym e);
      buffer = sym (put_none a.out.now 0) ∙ ap (put a.out.now 0) (sym e);
      bound = omega arith;
    }

pub returns-then-is_empty : goal.returns-then-is_empty
unfolding progress last_text
returns-then-is_empty c =
    let a = c.args in
    let p = progress a.lister (kept_bytes a.line.now) in
    let none : kept_bytes a.line.now ≡ [] = search rules in
    let e = end_last reader p c.if-lister.false ∙ ap (last_text reader a.lister.receiver) none in
    record {
      count = ap length (sym e);
      buffer = sym (put_none a.out.now 0) ∙ ap (put a.out.now 0) (sym e);
      bound = omega arith;
    }

pub returns : goal.returns
unfolding progress
returns c =
    let a = c.args in
    let p = progress a.lister (kept_bytes a.line.now) in
    let some : kept_bytes a.line.now ≢ [] = search rules in
    let e = end_line p c.if-lister.false (length_some (kept_bytes a.line.now) some) in
    let l = c.list_line.ensures in
    let w = written_as {b = a.out.now} {at = 0} (ap (λ k. line_text a.lister.receiver (read_line k)) c.as_slice.ensures ∙ sym e) (record { place = l.place; buffer = l.buffer }) in
    let fits = put_fits a.out.now 0 _ (omega arith) (ap length (sym l.buffer) ∙ c.list_line.auto.out) in
    record {
      count = w.place ∙ zero-add _;
      buffer = w.buffer;
      bound = omega (arith, l.place, fits, c.list_line.auto.out);
    }
