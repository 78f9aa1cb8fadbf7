-- `fifteen` meets its contract.
use Rattle.swar_majority.specs.Internal.{fifteen_of}
use Rattle.decode_short_candidate.proofs.ChoiceLaws.{most_mod, lanes_same, most_by, lanes_fit}
use borrow.Author.Rules.{rules}
use Rattle.decode_short_candidate.proofs.fifteen.Goals as goal

pub most_of_15-requires : goal.most_of_15-requires
most_of_15-requires c = search (rules, lanes_fit)

pub returns : goal.returns
returns c =
    let f = fifteen_of c.args.d c.args.e in
    most_by _ _ _ _ _ (lanes_same f c.apart.ensures.0 c.apart-2.ensures.0 c.apart-3.ensures.0)
    (most_mod _ _ _ _ _ c.requires.0 c.most_of_15.ensures c.symbol.ensures)
