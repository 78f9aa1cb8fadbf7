-- `lead` meets its contract, for q 2 and for the others.
use mathlib.Core.Path.{◌≡◌, ◌∙◌}
use native.Mathlib.Omega.{arith}
use Rattle.swar_count.specs.Internal.{lanes_equal}
use Rattle.decode_short_lead.proofs.LeadLaws.{one_sum, one_other}
use Rattle.decode_short_lead.proofs.lead.Goals as goal

pub lead_of_two-requires : goal.lead_of_two-requires
lead_of_two-requires c =
    let two : c.args.q ≡ 2 = omega arith in
    let one = one_sum c.args.q (lanes_equal c.args.x) two in
    ((λ t h. omega (arith, two, c.requires.0 t h)), omega (arith, one, c.requires.3), omega (arith, one, c.requires.4))

pub returns-then-q-eq2 : goal.returns-then-q-eq2
returns-then-q-eq2 c =
    let two : c.args.q ≡ 2 = omega arith in
    c.lead_of_two.ensures ∙ one_other c.args.q c.args.half (lanes_equal c.args.x) two

pub lead_by_values-requires : goal.lead_by_values-requires
lead_by_values-requires c =
    ((λ t h. omega (arith, c.requires.0 t h, c.requires.2)), c.requires.1, c.requires.2, c.requires.3, c.requires.4)

pub returns : goal.returns
returns c = c.lead_by_values.ensures
