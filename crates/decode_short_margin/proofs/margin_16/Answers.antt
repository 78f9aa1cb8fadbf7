-- `margin_16` meets its contract: a number without errors has no wrong vote.
use native.Mathlib.Omega.{arith}
use Rattle.decode_short_margin.proofs.LeastLaws.{errors_16, margin_16_is}
use Rattle.decode_short_margin.proofs.margin_16.Goals as goal

pub four_leads-requires : goal.four_leads-requires
four_leads-requires c = errors_16 c.args.q _ c.args.f (omega arith) (omega arith) c.requires.0 c.requires.1 c.requires.2

pub returns : goal.returns
returns c =
    margin_16_is c.args.q c.args.f c.four_leads.result c.requires.0 c.four_leads.ensures
