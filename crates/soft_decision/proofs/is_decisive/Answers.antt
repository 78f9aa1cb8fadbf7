-- `is_decisive` meets its contract, by the test that led to each answer.
use mathlib.Core.Path.{refl, ap₂, ◌∙◌}
use mathlib.Core.Bool.{true, false, cond}
use lib.Ieee.{lt}
use Rattle.soft_theory.specs.Numbers.{f32}
use Rattle.soft_theory.specs.Decision.{is_decisive}
use Rattle.soft_decision.proofs.Floats.{is_decisive_lem}
use Rattle.soft_decision.proofs.is_decisive.Goals as goal

pub returns-then-larger : goal.returns-then-larger
returns-then-larger c =
    let l = c.pick-larger in
    is_decisive_lem l.result c.pick.result true c.if-larger.true ∙ ap₂ (is_decisive f32) l.ensures c.pick.ensures

pub returns-else-larger : goal.returns-else-larger
returns-else-larger c =
    let l = c.pick-larger in
    let s = c.args in
    c.if-larger.false ∙ is_decisive_lem l.result (cond (lt s.a s.b) s.a s.b) false c.if-larger.false ∙ ap₂ (is_decisive f32) l.ensures refl
