-- `read_part` meets its contract: a miss is listed at once, any other part is kept and, where a newline ends it, listed.
use Rattle.std.proofs.Common.{rules, ◌≡◌, []}
use mathlib.Core.Path.{sym, ap, ◌∙◌}
use native.Mathlib.Omega.{arith}
use lib.ListN.{take}
use lib.Seq.{length-take-le}
use Rattle.text_lines.specs.Line.{miss, read_line}
use Rattle.text_lines.proofs.EndingLaws.{line_within, miss_ends}
use Rattle.text_chunks.specs.Internal.{keep_all}
use Rattle.text_chunks.proofs.LineLaws.{miss_line}
use Rattle.text_chunks.specs.Kept.{kept_bytes}
use Rattle.list_stream.proofs.StreamLaws.{line_fit, reads_line, reads_part}
use Rattle.list_stream.proofs.read_part.Goals as goal

pub after_line-requires : goal.after_line-requires
after_line-requires c =
    line_fit c.args.lister _ _ c.requires.fit c.list_miss.ensures.session

pub returns-then-has_miss : goal.returns-then-has_miss
returns-then-has_miss c =
    let a = c.args in
    let yes = sym c.has_miss.ensures ∙ c.if-has_miss.true in
    let f = miss_ends c.line_length-n.result a.bytes.now c.line_length-n.ensures yes in
    let e = c.list_miss.ensures in
    let none : kept_bytes a.line.now ≡ [] = search rules in
    let line = miss_line (kept_bytes a.line.now) a.bytes.now c.line_length-n.result none c.line_length-n.ensures yes in
    reads_line a.lister (kept_bytes a.line.now) a.bytes.now a.out.now a.at c.requires miss c.list_miss.result 2 _ _ _ none
    (omega (arith, f.2)) (omega (arith, f.0, f.1, f.2)) line
    e.session e.ends (record { place = e.place; buffer = e.buffer }) c.after_line.ensures

pub slice_bounds-keep-end : goal.slice_bounds-keep-end
slice_bounds-keep-end c =
    let bytes = c.args.bytes.now in
    sym (length-take-le c.line_length-n.result bytes (omega (arith, c.line_length-n.ensures, line_within bytes)))

pub returns-then-n-bytes : goal.returns-then-n-bytes
returns-then-n-bytes c =
    let a = c.args in
    reads_part a.lister (kept_bytes a.line.now) a.bytes.now a.out.now a.at c.requires (kept_bytes c.keep.new.self) c.line_length-n.result c.line_length-n.ensures c.if-n-bytes.true c.keep.ensures

pub overflow_add-n : goal.overflow_add-n
overflow_add-n c =
    omega (arith, c.line_length-n.ensures, line_within c.args.bytes.now, c.if-n-bytes.false, c.well_formed)

pub after_line-requires-2 : goal.after_line-requires-2
after_line-requires-2 c =
    line_fit c.args.lister _ _ c.requires.fit c.list_line-listed.ensures.session

pub returns : goal.returns
returns c =
    let a = c.args in
    let e = c.list_line-listed.ensures in
    let l = c.line_length-n.ensures in
    let line = c.as_slice.ensures ∙ c.keep.ensures ∙ ap (λ m. keep_all (kept_bytes a.line.now) (take m a.bytes.now)) l in
    reads_line a.lister (kept_bytes a.line.now) a.bytes.now a.out.now a.at c.requires _ c.list_line-listed.result _ _ _ _ (ap kept_bytes c.clear.ensures)
    (omega (arith, l)) (omega (arith, l, c.if-n-bytes.false, line_within a.bytes.now)) (ap read_line (sym line))
    e.session e.ends (record { place = e.place; buffer = e.buffer }) c.after_line-2.ensures
