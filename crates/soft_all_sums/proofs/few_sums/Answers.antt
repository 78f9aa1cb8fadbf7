-- `few_sums` meets its contract. The outer loop's invariant: each pair of sums has the first j votes; the inner one's: those below k have
-- one more.
use mathlib.Core.Path.{◌∙◌}
use native.Mathlib.Omega.{arith}
use Rattle.soft_all_sums.proofs.RowLaws.{sums_zero, stored_none, stored_next, sums_more, held_is, votes_as, half_places, all_few, all_of}
use Rattle.soft_all_sums.proofs.few_sums.Goals as goal

pub loop-j-init : goal.loop-j-init
loop-j-init g c = (omega arith, sums_zero 0 _ _ _ _ c.no_sums-few.ensures)

pub loop-k-init : goal.loop-k-init
loop-k-init g c = (omega arith, stored_none _ _ _ c.loop-j.invariant.1.rest.size)

pub more-requires : goal.more-requires
more-requires g c =
    let k = c.loop-k.k in (
      omega arith,
      let h = half_places c.args.samples.m g.row.N c.pow2-j-end.result c.requires.0 c.requires.2 c.pow2-j-end.ensures in
          omega (arith, h, c.args.samples.reals),
      votes_as _ _ _ k _ _ (omega arith)
          (held_is c.loop-k.few k _ (omega (arith, c.loop-k.invariant.1.size, c.args.samples.high))
          ∙ c.loop-k.invariant.1.rest k (omega arith) ∙ c.loop-j.invariant.1.each k (omega arith) (omega arith)),
    )

pub loop-k-preserved : goal.loop-k-preserved
loop-k-preserved g c =
    let k = c.loop-k.k in
    (omega arith, stored_next _ _ _ c.loop-k.few k _ (omega (arith, c.args.samples.high)) c.loop-k.invariant.1 (votes_as _ _ _ _ k _ (omega arith) c.more.ensures))

pub loop-j-preserved : goal.loop-j-preserved
loop-j-preserved g c =
    (omega arith, sums_more _ _ _ 0 _ c.loop-k.k _ _ (omega arith) c.loop-j.invariant.1.rest c.loop-k.invariant.1)

pub returns : goal.returns
returns g c =
    let h = half_places c.args.samples.m g.row.N c.pow2-j-end.result c.requires.0 c.requires.2 c.pow2-j-end.ensures in
    all_of c.args.samples.m _ _ _ _ c.requires.0 (all_few _ _ _ c.loop-j.j _ (omega (arith, h)) c.loop-j.invariant.1)
