-- A shuffle of a part of 256 places, and shuffles between a copy in and a copy out. Assumes nothing.
use Prim.Native.Nat.{ℕ, zero, suc, ◌+◌, ◌*◌, ◌/◌, ◌%◌, ◌≤◌, ◌<◌}
use mathlib.Core.Path.{◌≡◌, ap, sym, subst, ◌∙◌}
use mathlib.Core.List.{List}
use native.Mathlib.Nat.{zero-add, zero-mul, one-mul, mod-add-div}
use native.Mathlib.Omega.{arith}
use lib.ListN.{length}
use Rattle.code_theory.specs.Sum.{at}
use Rattle.interleave_theory.specs.Place.{across, transposed}
use Rattle.interleave_theory.specs.Internal.{Transposes}
use Rattle.interleave_theory.proofs.PlaceLaws.{across_at, across_lt, transposed_is, transposes_by_rows}
use Rattle.interleave_shuffle.proofs.ShuffleLaws.{Rounds, rounds_none}
use Rattle.interleave_block.specs.Internal.{Copied}

-- halves that are taken apart, to place 0 and to place 128, and then shuffled with all between them
pub apart_shuffled : (half : ℕ) (x empty one two y : List ℕ) → half ≤ 128 → Copied half x 0 empty one 0 → Copied half x half one two 128
    → Transposes 2 128 two y → Transposes 2 half x y
apart_shuffled half x empty one two y h first second turned = transposes_by_rows 2 half x y (λ s w hs hw.
    turned.places (s * 2 + w) (omega (arith, h, hs, hw)) ∙ ap (at two) (across_at 2 128 w s hw) ∙ go s w hs hw)
  where
    go : (s w : ℕ) → s < half → w < 2 → at two (w * 128 + s) ≡ at x (w * half + s)
    go s zero hs hw =
        let e : 0 * half + s ≡ 0 + s = omega (arith, zero-mul half) in
        second.kept (0 + s) (λ k l z. omega (arith, z, h, hs)) ∙ first.copied s hs ∙ ap (at x) (sym e)
    go s (suc zero) hs hw =
        let e : 1 * half + s ≡ half + s = omega (arith, one-mul half) in
        second.copied s hs ∙ ap (at x) (sym e)
    go s (suc (suc w)) hs hw = absurd (omega (arith, hw))

-- what is copied to the front has had no shuffle yet
pub rounds_copied : (half n : ℕ) (x empty y : List ℕ) → n ≡ 2 * half → Copied n x 0 empty y 0 → Rounds 0 half x y
rounds_copied half n x empty y e c =
    rounds_none half x y (λ i h. ap (at y) (sym (zero-add i)) ∙ c.copied i (omega (arith, e, h)) ∙ ap (at x) (zero-add i))

-- as many shuffles as there are
pub rounds_all : (k times half : ℕ) (x y : List ℕ) → k ≡ times → Rounds k half x y → Rounds times half x y
rounds_all k times half x y e r = subst (λ n. Rounds n half x y) e r

-- rows that are copied before they are transposed
pub copied_in : (n a b : ℕ) (x empty y z : List ℕ) → n ≡ a * b → Copied n x 0 empty y 0 → Transposes a b y z → Transposes a b x z
copied_in n a b x empty y z e c turned = record {
  places = λ p h.
      let i : ℕ = across a b p in
      turned.places p h ∙ ap (at y) (sym (zero-add i)) ∙ c.copied i (omega (arith, e, across_lt a b p h)) ∙ ap (at x) (zero-add i);
}

-- and after it
pub copied_out : (n a b : ℕ) (x y t z : List ℕ) → n ≡ a * b → length t ≡ a * b → Transposes a b x y → Copied n y 0 t z 0 → z ≡ transposed a b x
copied_out n a b x y t z e size turned c = transposed_is a b x z (c.size ∙ size) (record {
  places = λ p h. ap (at z) (sym (zero-add p)) ∙ c.copied p (omega (arith, e, h)) ∙ ap (at y) (zero-add p) ∙ turned.places p h;
})

-- a number that d divides, as a product
pub divided : (n d : ℕ) → n % d ≡ 0 → d * (n / d) ≡ n
divided n d h = omega (arith, h, mod-add-div n d)
