-- `lead_of` meets its contract: the lanes are the votes of both numbers.
use native.Mathlib.Omega.{arith}
use Rattle.code_theory.proofs.WordLaws.{bounds}
use Rattle.decode_short_margin.proofs.LaneLaws.{lanes_both}
use Rattle.decode_short_margin.proofs.LeastLaws.{lead_room, lead_told}
use Rattle.decode_short_margin.proofs.lead_of.Goals as goal

pub overflow_cast-q : goal.overflow_cast-q
overflow_cast-q c = record { fits = omega (arith, bounds c.args.q c.requires.0.alphabet) }

pub lead-requires : goal.lead-requires
lead-requires c =
    let e = c.requires.0 in
    let (v, b) = c.votes_within.ensures in
    lead_room _ _ _ _ e.alphabet b (lanes_both _ _ _ _ _ c.requires.1 v) e.size (e.few _ c.requires.1)

pub returns : goal.returns
returns c =
    let e = c.requires.0 in
    let (v, b) = c.votes_within.ensures in
    lead_told _ _ _ _ e.alphabet b (lanes_both _ _ _ _ _ c.requires.1 v) e.size (e.few _ c.requires.1) c.lead.result c.lead.ensures
