-- `is_digits` meets its contract: the fold over the bytes asks each.
use Rattle.std.proofs.Common.{rules, ◌∙◌, true, ◌&&◌}
use Rattle.std.proofs.lemmas.Iterator.{YieldsList-from_slice}
use Rattle.std.proofs.lemmas.Iterator.Consumers.{fold_from_yields_List}
use Rattle.text_lines.specs.Line.{is_digit}
use Rattle.text_lines.proofs.LineLaws.{digits_fold}
use Rattle.text_lines.proofs.is_digits.Goals as goal

pub returns : goal.returns
returns c =
    fold_from_yields_List _ (λ all b. all && is_digit b) true _ c.fold.ensures.ran (YieldsList-from_slice c.args.line.now c.iter.ensures.rest) (λ a x b q k. search rules)
    ∙ digits_fold true c.args.line.now
