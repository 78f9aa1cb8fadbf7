-- `line_length` meets its contract: the place of the first newline, or the length.
use Rattle.std.proofs.Common.{rules, tests, ◌∙◌, ap, unwrap_or, ◌==◌, length}
use Rattle.std.proofs.lemmas.Iterator.{YieldsList-from_slice}
use Rattle.std.proofs.lemmas.Iterator.Search.{position_from_yields_List}
use Rattle.text_lines.proofs.EndingLaws.{line_found}
use Rattle.text_lines.proofs.line_length.Goals as goal

pub returns : goal.returns
returns c =
    let bytes = c.args.bytes.now in
    c.unwrap_or.ensures
    ∙ ap (λ o. unwrap_or o (length bytes)) (position_from_yields_List (λ b. b == 10) _ _ _ c.position.ensures.ran (YieldsList-from_slice bytes c.iter.ensures.rest) (λ x b q k. search (rules, tests)))
    ∙ line_found bytes
