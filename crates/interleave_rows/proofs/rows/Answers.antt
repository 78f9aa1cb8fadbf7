-- `rows` meets its contract.
use Prim.Native.Nat.{◌+◌, ◌*◌}
use mathlib.Core.Path.{◌≡◌, refl, ap, ◌∙◌}
use native.Mathlib.Nat.{mul_comm, add-mul, one-mul}
use native.Mathlib.Omega.{arith}
use Rattle.interleave_theory.proofs.PlaceLaws.{transposed_is, filled_less}
use Rattle.interleave_rows.proofs.rows.Goals as goal

pub loop-s-init : goal.loop-s-init
loop-s-init c = (omega arith, refl, record { places = λ p h. absurd (omega (arith, h)) })

pub row-requires : goal.row-requires
row-requires c =
    let l = c.loop-s in
    (c.requires.0, l.invariant.1 ∙ c.requires.1, omega arith, l.invariant.2)

pub loop-s-preserved : goal.loop-s-preserved
loop-s-preserved c =
    let l = c.loop-s in
    let a = c.args.a in
    let f = c.row in
    (omega arith, f.ensures.size ∙ l.invariant.1, filled_less _ _ (l.s * a + a) _ _ _ (omega (arith, add-mul l.s 1 a, one-mul a)) f.ensures.places)

pub returns : goal.returns
returns c =
    let l = c.loop-s in
    let a = c.args in
    let end : l.s ≡ a.b = omega arith in
    transposed_is _ _ _ _ (l.invariant.1 ∙ c.requires.1)
    (filled_less _ _ (l.s * a.a) _ _ _ (omega (arith, mul_comm a.a a.b, ap (λ k. k * a.a) end)) l.invariant.2)
