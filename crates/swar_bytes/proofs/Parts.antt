-- The bytes of a number are read and written in parts. Assumes nothing.
use Prim.Native.Nat.{ℕ, zero, suc, ◌+◌, ◌*◌, ◌-◌, ◌/◌, ◌%◌, ◌^◌, ◌≤◌, ◌<◌}
use mathlib.Core.Path.{◌≡◌, refl, ap, ap₂, sym, ◌∙◌, subst}
use mathlib.Core.List.{List, ◌++◌}
use native.Mathlib.Decide.{dec_lt}
use native.Mathlib.Omega.{arith}
use native.Mathlib.Nat.{add_comm, mul-add, mul_comm, mul-le-mul_right, add-mul, one-mul, mod-eq_of_lt, div-one}
use lib.ListN.{length, take, drop, length-append, length-take, length-drop, get_or-append}
use borrow.Rule.Slice.PartMut.{put_mid}
use Rattle.std.proofs.Math.Seq.{get_or-append_right}
use Rattle.std.specs.List.{slice_range}
use Rattle.std.specs.Int.{w32, w64, from_le_bytes, to_le_bytes}
use Rattle.std.proofs.lemmas.List.{get_or-take, get_or-drop}
use lib.Pow.{pow-add, pow_mono, high}
use Rattle.code_theory.specs.Sum.{sum, at}
use Rattle.swar_theory.specs.Internal.{digit, number}
use Rattle.swar_theory.proofs.DigitLaws.{digit_under, digit_down, number_lt, number_digit, digit_add, add_lt}
use Rattle.swar_bytes.specs.Internal.{Holds, from, Put}

module _ (n p x y : ℕ) (f : ℕ → ℕ) (a : Holds n x f) (b : Holds p y (λ l. f (n + l))) where
  join_fits : x + y * 2 ^ (8 * n) < 2 ^ (8 * (n + p))
  join_fits =
      let t : suc y * 2 ^ (8 * n) ≤ 2 ^ (8 * p) * 2 ^ (8 * n) = mul-le-mul_right (2 ^ (8 * n)) b.fits in
      omega (arith, a.fits, t, add-mul 1 y (2 ^ (8 * n)), one-mul (2 ^ (8 * n)), ap (λ z. 2 ^ z) (mul-add 8 n p), pow-add 2 (8 * n) (8 * p), mul_comm (2 ^ (8 * n)) (2 ^ (8 * p)))

  join_each : (l : ℕ) → l < n + p → Dec (l < n) → digit 8 (x + y * 2 ^ (8 * n)) l ≡ f l
  join_each l h (yes k) = digit_under 8 n l x y k ∙ a.each l k
  join_each l h (no k) =
      let e : n + (l - n) ≡ l = omega arith in
      ap (digit 8 (x + y * 2 ^ (8 * n))) (sym e)
      ∙ sym (digit_down 8 (x + y * 2 ^ (8 * n)) n (l - n))
      ∙ ap (λ z. digit 8 z (l - n)) (ap (λ z. z / 2 ^ (8 * n)) (add_comm x _) ∙ high y (8 * n) a.fits)
      ∙ b.each (l - n) (omega arith)
      ∙ ap f e

  hold_join : Holds (n + p) (x + y * 2 ^ (8 * n)) f
  hold_join = record { fits = join_fits; each = λ l h. join_each l h (dec_lt l n) }

  -- p digits, shifted above n digits and added, make n + p digits
  pub hold_shifted : n + p ≤ 8 → Holds (n + p) (x + y * 2 ^ (8 * n) % 18446744073709551616) f
  hold_shifted h = subst (λ z. Holds (n + p) (x + z) f) (sym (mod-eq_of_lt below)) hold_join
    where
      below : y * 2 ^ (8 * n) < 18446744073709551616
      below = omega (arith, join_fits, pow_mono {i = 8 * (n + p)} {j = 64} (omega arith))

-- the number that is made of n digits holds them
pub hold_number : (n x : ℕ) (f : ℕ → ℕ) → x ≡ number 8 n f → ((l : ℕ) → l < n → f l < 256) → Holds n x f
hold_number n x f e h = record {
  fits = subst (λ z. z < 2 ^ (8 * n)) (sym e) (number_lt 8 n f h);
  each = λ l k. ap (λ z. digit 8 z l) e ∙ number_digit 8 n f h l k;
}

-- a times a number whose digits are 1 holds a in each digit
pub same_four : (a : ℕ) → a < 256 → Holds 4 (a * 16843009) (λ l. a)
unfolding number sum
same_four a h = hold_number 4 _ _ (omega arith) (λ l k. h)

pub same_eight : (a : ℕ) → a < 256 → Holds 8 (a * 72340172838076673) (λ l. a)
unfolding number sum
same_eight a h = hold_number 8 _ _ (omega arith) (λ l k. h)

-- a sum holds the sums of the digits where each of them is below 256
pub hold_plus : (n x y : ℕ) (f g : ℕ → ℕ) → Holds n x f → Holds n y g → ((l : ℕ) → l < n → f l + g l < 256) → Holds n (x + y) (λ l. f l + g l)
hold_plus n x y f g a b h = record {
  fits = add_lt 8 n x y a.fits b.fits fits;
  each = λ l k. digit_add 8 n x y a.fits b.fits fits l k ∙ ap₂ (λ u v. u + v) (a.each l k) (b.each l k);
}
  where
    fits : (l : ℕ) → l < n → digit 8 x l + digit 8 y l < 2 ^ 8
    fits l k = omega (arith, a.each l k, b.each l k, h l k)

pub hold_ext : (n x : ℕ) (f g : ℕ → ℕ) → ((l : ℕ) → l < n → f l ≡ g l) → Holds n x f → Holds n x g
hold_ext n x f g e a = record { fits = a.fits; each = λ l k. a.each l k ∙ e l k }

-- the library's number of the symbols from place i on
module _ (s : List ℕ) (i : ℕ) (bytes : (l : ℕ) → at s l < 256) where
  part_at : (n l : ℕ) → l < n → at (slice_range s i (i + n)) l ≡ at s (i + l)
  part_at n l h = get_or-take (i + n - i) (drop i s) l 0 (omega arith) ∙ get_or-drop i s l 0

  part_below : (n l : ℕ) → l < n → at (slice_range s i (i + n)) l < 256
  part_below n l h = omega (arith, part_at n l h, bytes (i + l))

  pub read_four : (x : ℕ) → x ≡ from_le_bytes w32 (slice_range s i (i + 4)) → Holds 4 x (from s i)
  unfolding number sum
  read_four x e = hold_ext 4 x _ _ (part_at 4) (hold_number 4 x (at (slice_range s i (i + 4))) (omega (arith, e)) (part_below 4))

  pub read_eight : (x : ℕ) → x ≡ from_le_bytes w64 (slice_range s i (i + 8)) → Holds 8 x (from s i)
  unfolding number sum
  read_eight x e = hold_ext 8 x _ _ (part_at 8) (hold_number 8 x (at (slice_range s i (i + 8))) (omega (arith, e)) (part_below 8))

-- the library's bytes of a number are its digits
pub bytes_of : (x l : ℕ) → l < 8 → at (to_le_bytes w64 x) l ≡ digit 8 x l
unfolding digit
bytes_of x zero h = ap (λ z. z % 256) (sym (div-one x))
bytes_of x (suc zero) h = refl
bytes_of x (suc (suc zero)) h = refl
bytes_of x (suc (suc (suc zero))) h = refl
bytes_of x (suc (suc (suc (suc zero)))) h = refl
bytes_of x (suc (suc (suc (suc (suc zero))))) h = refl
bytes_of x (suc (suc (suc (suc (suc (suc zero)))))) h = refl
bytes_of x (suc (suc (suc (suc (suc (suc (suc zero))))))) h = refl
bytes_of x (suc (suc (suc (suc (suc (suc (suc (suc l)))))))) h = absurd (omega arith)

-- a part of n places that is written over with the lowest n of them
module _ (n x i : ℕ) (w ys : List ℕ) (room : i + n ≤ length w) (few : n ≤ 8) (e : ys ≡ take n (to_le_bytes w64 x)) where
  front : length (take i w) ≡ i
  front = omega (arith, length-take i w)

  middle : length ys ≡ n
  middle = ap length e ∙ omega (arith, length-take n (to_le_bytes w64 x))

  rest : List ℕ
  rest = drop (i + n - i) (drop i w)

  inside : (l : ℕ) → l < n → at (take i w ++ (ys ++ rest)) (i + l) ≡ digit 8 x l
  inside l k =
      get_or-append_right (take i w) (ys ++ rest) (i + l) 0 (omega (arith, front))
      ∙ ap (at (ys ++ rest)) (omega (arith, front)) ∙ get_or-append ys rest 0 l (omega (arith, middle))
      ∙ ap (λ z. at z l) e ∙ get_or-take n (to_le_bytes w64 x) l 0 k ∙ bytes_of x l (omega arith)

  past : (j : ℕ) → i + n ≤ j → at (take i w ++ (ys ++ rest)) j ≡ at w j
  unfolding rest
  past j k =
      get_or-append_right (take i w) (ys ++ rest) j 0 (omega (arith, front))
      ∙ get_or-append_right ys rest (j - length (take i w)) 0 (omega (arith, front, middle))
      ∙ get_or-drop (i + n - i) (drop i w) _ 0 ∙ get_or-drop i w _ 0 ∙ ap (at w) (omega (arith, front, middle))

  pub put_part : Put n x i w (put_mid i (i + n - i) w ys)
  unfolding rest
  put_part = record {
    size = omega (arith, front, middle, length-append (take i w) (ys ++ rest), length-append ys rest, length-drop (i + n - i) (drop i w), length-drop i w);
    new = inside;
    below = λ j k. get_or-append (take i w) (ys ++ rest) 0 j (omega (arith, front)) ∙ get_or-take i w j 0 k;
    above = past;
  }
