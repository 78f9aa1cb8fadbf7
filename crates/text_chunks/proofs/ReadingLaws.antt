-- What a read gave and what comes after it, by the tests of the code. Assumes nothing.
use Prim.Native.Nat.{ℕ, ◌≤◌}
use mathlib.Core.Path.{◌≡◌, refl, sym}
use mathlib.Core.Bool.{Bool, true, false, cond}
use mathlib.Core.List.{List}
use native.Mathlib.Omega.{arith}
use borrow.Author.Tests.{eq-eqb, ne_eqb}
use lib.Dec.{eqb}
use lib.ListN.{length, take}
use lib.Seq.{length-take-le}
use lib.IntN.{ℤ, pos, negsuc}
use mir.Syntax.{w32}
use mir.Val.{Fits, SFits, of_z}
use Rattle.text_chunks.specs.declared.Next.TheVariants.{Read, Rest, End, Failed}
use Rattle.text_chunks.specs.Reading.{given, after_failure, after_part}
use Rattle.text_chunks.specs.Internal.{rest_place}

-- what a failed read left as its error, which the code compares as a number of 32 bits
pub failed_again : (error : ℤ) → of_z w32 error ≡ 4 → SFits w32 error → Read ≡ after_failure error
unfolding after_failure
failed_again (pos e) h f = sym (rw (eq-eqb e 4 h))
failed_again (negsuc e) h f = absurd (omega (arith, f.sfits, h))

pub failed_told : (error : ℤ) → (of_z w32 error ≡ 4 → ⊥) → Failed error ≡ after_failure error
unfolding after_failure
failed_told (pos e) h = sym (rw (ne_eqb e 4 h))
failed_told (negsuc e) h = refl

-- the code's tests behind a part
pub part_over : (over : Bool) (place end : ℕ) → over ≡ true → End ≡ after_part over place end
unfolding after_part
part_over over place end o = sym (rw o)

pub part_last : (over : Bool) (place end : ℕ) → over ≡ false → place ≡ end → Read ≡ after_part over place end
unfolding after_part
part_last over place end o e = sym (rw (o, eq-eqb place end e))

pub part_rest : (over : Bool) (place end : ℕ) → over ≡ false → (place ≡ end → ⊥) → Rest place ≡ after_part over place end
unfolding after_part
part_rest over place end o d = sym (rw (o, ne_eqb place end d))

-- where the listing goes on
pub failed_place : (error : ℤ) → rest_place (after_failure error) ≡ 0
unfolding after_failure rest_place
failed_place (pos e) = by (eqb e 4)
  where
    by : (t : Bool) → rest_place (cond t Read (Failed (pos e))) ≡ 0
    by true = refl
    by false = refl
failed_place (negsuc e) = refl

pub part_place : (over : Bool) (place end : ℕ) → place ≤ end → rest_place (after_part over place end) ≤ end
unfolding after_part rest_place
part_place true place end h = omega arith
part_place false place end h = by (eqb place end)
  where
    by : (t : Bool) → rest_place (cond t Read (Rest place)) ≤ end
    by true = omega arith
    by false = h

-- a part of the bytes that a read gave
pub given_room : (chunk : List ℕ) (place n : ℕ) → n ≤ length chunk → place ≤ n → place ≤ length (take n chunk)
given_room chunk place n h l = omega (arith, l, length-take-le n chunk h)
