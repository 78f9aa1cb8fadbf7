-- `long_tallies` meets its contract.
use mathlib.Core.Path.{◌∙◌}
use Rattle.code_theory.proofs.WordLaws.{word_length}
use Rattle.swar_lanes.proofs.LoadLaws.{word_low}
use Rattle.decode_long.proofs.LongLaws.{word_packed, word_within, word_lanes}
use Rattle.decode_long.proofs.long_tallies.Goals as goal

pub load-requires : goal.load-requires
load-requires c =
    (word_length _ _ _ c.requires.0, word_low _ _ _ c.requires.0, c.requires.3.size)

pub tallies-requires : goal.tallies-requires
tallies-requires c =
    let l = c.load.ensures in
    let x = word_within _ _ _ _ _ c.requires.0 c.requires.1 c.requires.3 l in
    (word_lanes _ _ _ _ c.requires.0 c.requires.1 (l.size ∙ c.requires.3.size) x, c.requires.2, c.requires.4)

pub returns : goal.returns
returns c =
    let l = c.load.ensures in
    let p = word_packed _ _ _ _ _ c.requires.0 c.requires.1 c.requires.3 l in
    (word_within _ _ _ _ _ c.requires.0 c.requires.1 c.requires.3 l, p, c.tallies.ensures _ p)
