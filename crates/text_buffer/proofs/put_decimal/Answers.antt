-- `put_decimal` meets its contract.
use Prim.Native.Nat.{◌+◌}
use mathlib.Core.Path.{refl, ap, ◌∙◌}
use native.Mathlib.Omega.{arith}
use lib.ListN.{length, length-set}
use Rattle.text_buffer.proofs.DecimalLaws.{length_small, length_pair, decimal_two, behind_none, behind_place, behind_pair, behind_two, behind_one}
use Rattle.text_buffer.proofs.put_decimal.Goals as goal

pub overflow_add-end : goal.overflow_add-end
overflow_add-end c = omega (arith, c.requires, c.well_formed, c.digits.ensures)

pub loop-rest-init : goal.loop-rest-init
loop-rest-init c =
    let a = c.args in
    (refl, behind_none a.out.now a.at a.n _ (ap (λ k. a.at + k) c.digits.ensures))

pub overflow_sub-place : goal.overflow_sub-place
overflow_sub-place c =
    let l = c.loop-rest in
    omega (arith, l.invariant.1.from, length_pair l.rest c.loop-rest-test.true)

pub put_pair-requires : goal.put_pair-requires
put_pair-requires c =
    let l = c.loop-rest in
    let p = behind_place c.args.out.now c.args.at c.args.n l.rest l.place l.out c.requires l.invariant.1 in
    (omega arith, omega (arith, p, c.requires, l.invariant.0, l.invariant.1.from, length_pair l.rest c.loop-rest-test.true))

pub loop-rest-smaller : goal.loop-rest-smaller
loop-rest-smaller c = omega (arith, c.loop-rest-test.true)

pub loop-rest-preserved : goal.loop-rest-preserved
loop-rest-preserved c =
    let l = c.loop-rest in (
      c.put_pair.auto.out ∙ l.invariant.0,
      behind_pair c.args.out.now c.args.at c.args.n l.rest l.place l.out c.requires l.invariant.1 _ c.loop-rest-test.true c.put_pair.ensures,
    )

pub digit-requires : goal.digit-requires
digit-requires c = omega arith

pub bounds-out-at : goal.bounds-out-at
bounds-out-at c =
    let l = c.loop-rest in
    let p = behind_place c.args.out.now c.args.at c.args.n l.rest l.place l.out c.requires l.invariant.1 in
    omega (arith, p, c.requires, l.invariant.0, l.invariant.1.from, length_small l.rest c.if-rest-lt10.true)

pub shape_of-out-then-rest-lt10 : goal.shape_of-out-then-rest-lt10
shape_of-out-then-rest-lt10 c = simp length-set c.loop-rest.invariant.0

pub returns-then-rest-lt10 : goal.returns-then-rest-lt10
returns-then-rest-lt10 c =
    let l = c.loop-rest in
    record {
      place = ap (λ k. c.args.at + k) c.digits.ensures;
      buffer = behind_one c.args.out.now c.args.at c.args.n l.rest l.place l.out c.requires l.invariant.1 _ c.if-rest-lt10.true c.digit.ensures (bounds-out-at c);
    }

pub put_pair-requires-2 : goal.put_pair-requires-2
put_pair-requires-2 c =
    let l = c.loop-rest in
    let p = behind_place c.args.out.now c.args.at c.args.n l.rest l.place l.out c.requires l.invariant.1 in
    let d = ap length (decimal_two l.rest c.if-rest-lt10.false c.loop-rest-test.false) in
    (c.loop-rest-test.false, omega (arith, p, c.requires, l.invariant.0, l.invariant.1.from, d))

pub shape_of-out : goal.shape_of-out
shape_of-out c = c.put_pair-2.auto.out ∙ c.loop-rest.invariant.0

pub returns : goal.returns
returns c =
    let l = c.loop-rest in
    record {
      place = ap (λ k. c.args.at + k) c.digits.ensures;
      buffer = behind_two c.args.out.now c.args.at c.args.n l.rest l.place l.out c.requires l.invariant.1 _ c.if-rest-lt10.false c.loop-rest-test.false c.put_pair-2.ensures;
    }
