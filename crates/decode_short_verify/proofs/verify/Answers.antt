-- `verify` meets its contract.
use native.Mathlib.Omega.{arith}
use Rattle.swar_lanes.proofs.LoadLaws.{word_low}
use Rattle.decode_short_candidate.specs.Internal.{OnlyCandidate}
use Rattle.decode_short_verify.proofs.VerifyLaws.{held_below, below_eight, verified}
use Rattle.decode_short_verify.proofs.verify.Goals as goal

pub load-x-requires : goal.load-x-requires
load-x-requires g c =
    let r = c.requires.0 in
    (r.low, c.requires.1, r.symbols.size, word_low c.args.q g.row.M c.args.word.now r)

pub candidate-symbols-requires : goal.candidate-symbols-requires
candidate-symbols-requires g c =
    let r = c.requires.0 in
    let (x, y) = c.load-x.ensures in
    (r.alphabet, held_below c.args.q g.row.M c.args.word.now 0 _ r x, held_below c.args.q g.row.M c.args.word.now 16 _ r y, r.low, c.requires.1)

pub left-first-requires : goal.left-first-requires
left-first-requires g c =
    let r = c.requires.0 in
    let (x, y) = c.load-x.ensures in
    let only : OnlyCandidate c.args.q g.row.M c.args.word.now c.candidate-symbols.result = c.candidate-symbols.ensures.symbols _ x y in
    (r.alphabet, held_below c.args.q g.row.M c.args.word.now 0 _ r x, only.below 0 (omega arith), only.below)

pub further-requires : goal.further-requires
further-requires g c =
    let (x, y) = c.load-x.ensures in
    let only : OnlyCandidate c.args.q g.row.M c.args.word.now c.candidate-symbols.result = c.candidate-symbols.ensures.symbols _ x y in
    (c.requires.0.alphabet, only.below 0 (omega arith), only.below 5 (omega arith))

pub left-second-requires : goal.left-second-requires
left-second-requires g c =
    let r = c.requires.0 in
    let (x, y) = c.load-x.ensures in
    let only : OnlyCandidate c.args.q g.row.M c.args.word.now c.candidate-symbols.result = c.candidate-symbols.ensures.symbols _ x y in
    (r.alphabet, held_below c.args.q g.row.M c.args.word.now 16 _ r y, c.further.ensures.1, only.below)

pub wrong-requires : goal.wrong-requires
wrong-requires g c =
    let r = c.requires.0 in
    (r.low, c.requires.1, below_eight c.args.q _ r.alphabet c.left-first.ensures.1, below_eight c.args.q _ r.alphabet c.left-second.ensures.1)

pub returns-clause-symbols : goal.returns-clause-symbols
returns-clause-symbols g c =
    let (x, y) = c.load-x.ensures in
    verified c.args.q g.row.M c.args.word.now c.requires.0 c.requires.1 _ _ c.candidate-symbols.result _ _ _ x y c.further.ensures.0
    c.left-first.ensures.0 c.left-second.ensures.0 c.candidate-symbols.ensures.symbols c.wrong.result c.wrong.ensures
