-- `three` meets its contract.
use mathlib.Core.Path.{ap₂}
use Rattle.swar_majority.specs.Internal.{three_of}
use Rattle.decode_short_candidate.proofs.ChoiceLaws.{most_mod, most_by}
use Rattle.decode_short_candidate.proofs.three.Goals as goal

pub returns : goal.returns
returns c =
    let lanes = ap₂ (three_of c.args.d) c.apart.ensures.0 c.apart-2.ensures.0 in
    most_by _ _ _ _ _ lanes (most_mod _ _ _ _ _ c.requires.0 c.most_of_3.ensures c.symbol.ensures)
