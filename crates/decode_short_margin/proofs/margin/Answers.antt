-- `margin` meets its contract, for either length.
use native.Mathlib.Omega.{arith}
use Rattle.decode_short_margin.proofs.LeastLaws.{few_first, few_both, least_first_is, least_both_is}
use Rattle.decode_short_margin.proofs.margin.Goals as goal

pub margin_16-requires : goal.margin_16-requires
margin_16-requires g c = (c.requires.0, c.requires.1, few_first _ _ c.args.h g.row.M (omega arith) c.requires.5)

pub margin_32-requires : goal.margin_32-requires
margin_32-requires g c = (c.requires.0, c.requires.1, c.requires.2, few_both _ _ _ g.row.M (omega arith) c.requires.5)

pub returns-in-4 : goal.returns-in-4
returns-in-4 g c = least_first_is c.args.q c.args.f c.args.h g.row.M _ (omega arith) c.margin_16.ensures

pub returns-in_default : goal.returns-in_default
returns-in_default g c = least_both_is c.args.q c.args.f c.args.h g.row.M _ (omega arith) c.margin_32.ensures
