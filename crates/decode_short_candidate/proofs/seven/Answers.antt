-- `seven` meets its contract.
use Rattle.swar_majority.specs.Internal.{seven_of}
use Rattle.decode_short_candidate.proofs.ChoiceLaws.{most_mod, lanes_same, most_by, lanes_fit}
use borrow.Author.Rules.{rules}
use Rattle.decode_short_candidate.proofs.seven.Goals as goal

pub most_of_7-requires : goal.most_of_7-requires
most_of_7-requires c = search (rules, lanes_fit)

pub returns : goal.returns
returns c =
    let f = seven_of c.args.d in
    most_by _ _ _ _ _ (lanes_same f c.apart.ensures.0 c.apart-2.ensures.0 c.apart-3.ensures.0)
    (most_mod _ _ _ _ _ c.requires.0 c.most_of_7.ensures c.symbol.ensures)
