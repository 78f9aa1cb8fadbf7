-- The loop's invariant: the first k coefficients are sure and stand in found.
use mathlib.Core.Path.{◌≡◌}
use mathlib.Core.Bool.{true}
use Rattle.soft.specs.Internal.{sure_to, Found}
use Rattle.soft.proofs.decide_all.Given as goal

abbrev pub invariant-loop-k : goal.invariant-loop-k
invariant-loop-k l =
    let s = l.samples in
    (sure_to s.m s.re.now s.im.now l.k ≡ true) × Found s.m s.re.now s.im.now l.k l.found
