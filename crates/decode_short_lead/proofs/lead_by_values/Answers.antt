-- `lead_by_values` meets its contract.
use mathlib.Core.Path.{refl}
use native.Mathlib.Omega.{arith}
use Rattle.code_theory.specs.Internal.{sum_from1, max_from1}
use Rattle.swar_count.specs.Internal.{lanes_equal}
use Rattle.decode_short_lead.proofs.LeadLaws.{sum_within, step_sum, step_max, step_fits, last_fits, last_is}
use Rattle.decode_short_lead.proofs.lead_by_values.Goals as goal

pub loop-v-init : goal.loop-v-init
unfolding sum_from1 max_from1
loop-v-init c = (omega arith, omega arith, refl, refl)

pub lanes_equal-n-requires : goal.lanes_equal-n-requires
lanes_equal-n-requires c =
    let l = c.loop-v in
    (c.requires.0, omega arith, omega (arith, sum_within l.v c.args.q (lanes_equal c.args.x) l.invariant.0 (omega arith), c.requires.3))

pub overflow_add-bad : goal.overflow_add-bad
overflow_add-bad c =
    let l = c.loop-v in
    let few = step_fits c.args.q l.v _ _ (lanes_equal c.args.x) l.invariant.2 l.invariant.3 _ 15 l.invariant.0 (omega arith) c.lanes_equal-n.ensures c.requires.3 in
    record { fits = omega (arith, few) }

pub loop-v-preserved : goal.loop-v-preserved
loop-v-preserved c =
    let l = c.loop-v in
    let f = lanes_equal c.args.x in (
      omega arith,
      omega arith,
      step_sum c.args.q l.v _ _ f l.invariant.2 l.invariant.3 _ l.invariant.0 c.lanes_equal-n.ensures,
      step_max c.args.q l.v _ _ f l.invariant.2 l.invariant.3 _ _ l.invariant.0 c.lanes_equal-n.ensures c.max-next.ensures,
    )

pub overflow_sub-result : goal.overflow_sub-result
overflow_sub-result c =
    let l = c.loop-v in
    omega (arith, last_fits c.args.q l.v l.bad l.next (lanes_equal c.args.x) l.invariant.2 l.invariant.3 c.args.half (omega arith) c.requires.4)

pub overflow_sub-result-2 : goal.overflow_sub-result-2
overflow_sub-result-2 c =
    let l = c.loop-v in
    omega (arith, last_fits c.args.q l.v l.bad l.next (lanes_equal c.args.x) l.invariant.2 l.invariant.3 c.args.half (omega arith) c.requires.4)

pub returns : goal.returns
returns c =
    let l = c.loop-v in
    last_is c.args.q l.v l.bad l.next (lanes_equal c.args.x) l.invariant.2 l.invariant.3 c.args.half (omega arith)
