-- `eight` meets its contract: the library's number of the part holds its symbols.
use Rattle.std.proofs.Common.{◌≡◌, ◌+◌, ◌∙◌, ap, arith, rules}
use Rattle.std.specs.Int.{from_le_bytes, w64}
use Rattle.std.specs.List.{slice_range}
use Rattle.swar_bytes.proofs.Parts.{read_eight}
use Rattle.swar_bytes.proofs.eight.Goals as goal

pub returns : goal.returns
returns c =
    let part : c.unwrap-bytes.result ≡ slice_range c.args.s.now c.args.i (c.args.i + 8) = search rules in
    (read_eight c.args.s.now c.args.i (λ l. omega (arith, c.type_inv.s l)) _ (c.from_le_bytes.ensures ∙ ap (from_le_bytes w64) part)).each
