-- `four` meets its contract: the library's number of the part holds its symbols.
use Rattle.std.proofs.Common.{◌≡◌, ◌+◌, ◌∙◌, ap, arith, rules}
use Rattle.std.specs.Int.{from_le_bytes, w32}
use Rattle.std.specs.List.{slice_range}
use Rattle.swar_bytes.proofs.Parts.{read_four}
use Rattle.swar_bytes.proofs.four.Goals as goal

pub returns : goal.returns
returns c =
    let part : c.unwrap-bytes.result ≡ slice_range c.args.s.now c.args.i (c.args.i + 4) = search rules in
    read_four c.args.s.now c.args.i (λ l. omega (arith, c.type_inv.s l)) _ (c.from.ensures ∙ c.from_le_bytes.ensures ∙ ap (from_le_bytes w32) part)
