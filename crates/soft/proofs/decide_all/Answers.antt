-- `decide_all` meets its contract.
use Prim.Native.Nat.{◌<◌}
use mathlib.Core.Path.{ap, ◌∙◌}
use native.Mathlib.Omega.{arith}
use lib.ListN.{length-take}
use Rattle.soft_decision.specs.Internal.{sure_symbol}
use Rattle.soft.proofs.ReadLaws.{found_none, sure_none, sums_read, stopped, went_on}
use Rattle.soft.proofs.decide_all.Goals as goal

pub loop-k-init : goal.loop-k-init
loop-k-init c = (sure_none _ _ _, found_none _ _ _ _ c.requires.1 c.requires.2)

pub returns-in_err-found : goal.returns-in_err-found
returns-in_err-found c =
    let s = c.args.samples in
    let k = c.loop-k.k in
    let h : k < s.m = omega (arith, length-take s.m c.args.all) in
    rw c.from_residual.ensures (stopped _ _ _ k _ h (sums_read _ _ _ _ k _ c.requires.0 s.high h) (c.in_err-found.ensures ∙ ap sure_symbol c.decision.ensures))

pub loop-k-preserved : goal.loop-k-preserved
loop-k-preserved c =
    let s = c.args.samples in
    let k = c.loop-k.k in
    let h : k < s.m = omega (arith, length-take s.m c.args.all) in
    went_on _ _ _ k _ _ _ (omega (arith, s.high)) (sums_read _ _ _ _ k _ c.requires.0 s.high h) (c.in_ok-found.ensures ∙ ap sure_symbol c.decision.ensures)
    c.loop-k.invariant.0 c.loop-k.invariant.1
