-- `margin_32` meets its contract: the least of the first four leads and the last lead.
use native.Mathlib.Omega.{arith}
use Rattle.code_theory.proofs.WordLaws.{bounds}
use Rattle.swar_lanes.proofs.LaneLaws.{less_below}
use Rattle.decode_short_margin.proofs.LaneLaws.{last_lanes}
use Rattle.decode_short_margin.proofs.LeastLaws.{lead_room, lead_told, errors_32, margin_32_is}
use Rattle.decode_short_margin.proofs.margin_32.Goals as goal

pub four_leads-requires : goal.four_leads-requires
four_leads-requires c = errors_32 c.args.q c.args.f c.args.h c.requires.0 c.requires.1 c.requires.2 c.requires.3

pub overflow_cast-q : goal.overflow_cast-q
overflow_cast-q c =
    record { fits = omega (arith, bounds c.args.q c.requires.0) }

pub lead-last-requires : goal.lead-last-requires
lead-last-requires c =
    let d = c.less.ensures in
    lead_room _ 16 _ _ c.requires.0 (less_below _ _ _ _ c.requires.0 d) (last_lanes _ c.args.f c.args.h _ d) (omega arith) (omega (arith, c.requires.3 4 (omega arith)))

pub returns : goal.returns
returns c =
    let d = c.less.ensures in
    let last =
    lead_told _ 16 _ _ c.requires.0 (less_below _ _ _ _ c.requires.0 d) (last_lanes _ c.args.f c.args.h _ d) (omega arith) (omega (arith, c.requires.3 4 (omega arith)))
    c.lead-last.result c.lead-last.ensures in
    margin_32_is c.args.q c.args.f c.args.h _ _ _ c.requires.0 c.four_leads.ensures last c.min.ensures
