-- `top_below` meets its contract: the fold finds the largest.
use Rattle.std.proofs.Common.{◌≡◌, ◌+◌, ◌∙◌, max, rules}
use Rattle.std.specs.List.{fold, slice_range}
use Rattle.code_questions.proofs.Top.{top_tells}
use Rattle.code_questions.proofs.top_below.Goals as goal

pub returns : goal.returns
returns c =
    let top : c.fold-top.result ≡ fold max 0 (slice_range c.args.s.now c.args.i (c.args.i + c.args.n)) = search rules in
    top_tells _ _ _ _ _ c.requires.0 c.requires.1 (c.from.ensures ∙ top)
