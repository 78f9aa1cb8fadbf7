-- Decimal digits by tens. Assumes nothing.
use Prim.Native.Nat.{ℕ, zero, suc, ◌+◌, ◌-◌, ◌/◌, ◌%◌, ◌^◌, ◌≤◌, ◌<◌}
use mathlib.Core.Path.{◌≡◌, refl, ap, sym, ◌∙◌}
use mathlib.Core.Bool.{Bool, true, false, cond}
use mathlib.Core.List.{List, [], ◌∷◌, ◌++◌, append_assoc, append-nil}
use native.Mathlib.Nat.{not-suc-le-zero, pow-succ'}
use native.Mathlib.Numerals.{add-one}
use native.Mathlib.Omega.{arith}
use borrow.Author.Tests.{lt-ltb, le-ltb, ltb-true, ltb-false}
use lib.Dec.{ltb}
use lib.ListN.{length, set, length-append}
use Rattle.text_buffer.specs.Text.{decimal_within, decimal, put}
use Rattle.text_buffer.specs.Internal.{field}
use Rattle.text_buffer.proofs.PutLaws.{put_none, put_before, put_one}

-- places to spare change nothing
within : (f g n : ℕ) → n < f → n < g → decimal_within f n ≡ decimal_within g n
unfolding decimal_within
within zero g n a b = absurd (not-suc-le-zero a)
within (suc f) zero n a b = absurd (not-suc-le-zero b)
within (suc f) (suc g) n a b = by (ltb n 10) refl (λ h. within f g (n / 10) (omega arith) (omega arith))
  where
    by : (t : Bool) → ltb n 10 ≡ t → (10 ≤ n → decimal_within f (n / 10) ≡ decimal_within g (n / 10))
        → cond t ((48 + n) ∷ []) (decimal_within f (n / 10) ++ ((48 + n % 10) ∷ [])) ≡ cond t ((48 + n) ∷ []) (decimal_within g (n / 10) ++ ((48 + n % 10) ∷ []))
    by true e more = refl
    by false e more = ap (λ l. l ++ ((48 + n % 10) ∷ [])) (more (ltb-false n 10 e))

pub decimal_small : (n : ℕ) → n < 10 → decimal n ≡ (48 + n) ∷ []
unfolding decimal decimal_within
decimal_small n h = rw (lt-ltb n 10 h)

pub decimal_large : (n : ℕ) → 10 ≤ n → decimal n ≡ decimal (n / 10) ++ ((48 + n % 10) ∷ [])
unfolding decimal decimal_within
decimal_large n h = rw (le-ltb n 10 h) (ap (λ l. l ++ ((48 + n % 10) ∷ [])) (within n (suc (n / 10)) (n / 10) (omega arith) (omega arith)))

-- a number of one digit, and of one digit more than its tenth
pub length_small : (n : ℕ) → n < 10 → length (decimal n) ≡ 1
length_small n h = ap length (decimal_small n h)

pub length_large : (n : ℕ) → 10 ≤ n → length (decimal n) ≡ length (decimal (n / 10)) + 1
length_large n h = ap length (decimal_large n h) ∙ length-append (decimal (n / 10)) _

-- a number below a power of ten has no more digits than the power says
pub decimal_length : (k n : ℕ) → n < 10 ^ suc k → length (decimal n) ≤ suc k
decimal_length zero n h = omega (arith, length_small n h)
decimal_length (suc k) n h = by (ltb n 10) refl (λ g. decimal_length k (n / 10) (omega (arith, pow-succ' 10 (suc k))))
  where
    by : (t : Bool) → ltb n 10 ≡ t → (10 ≤ n → length (decimal (n / 10)) ≤ suc k) → length (decimal n) ≤ suc (suc k)
    by true e more = omega (arith, length_small n (ltb-true n 10 e))
    by false e more = omega (arith, length_large n (ltb-false n 10 e), more (ltb-false n 10 e))

-- and no fewer than the power below it
power : (k : ℕ) → 0 < 10 ^ k
power zero = omega arith
power (suc k) = omega (arith, pow-succ' 10 k, power k)

pub decimal_size : (k n : ℕ) → 10 ^ k ≤ n → n < 10 ^ suc k → length (decimal n) ≡ suc k
decimal_size zero n l h = length_small n (omega arith)
decimal_size (suc k) n l h =
    let p = pow-succ' 10 k in
    let q = pow-succ' 10 (suc k) in
    let large : 10 ≤ n = omega (arith, power k) in
    length_large n large ∙ ap (λ x. x + 1) (decimal_size k (n / 10) (omega arith) (omega arith)) ∙ add-one (suc k)

-- the two last digits of a number
pub decimal_pair : (n : ℕ) → 100 ≤ n → decimal n ≡ decimal (n / 100) ++ ((48 + n % 100 / 10) ∷ (48 + n % 100 % 10) ∷ [])
decimal_pair n h =
    let tens : n / 10 % 10 ≡ n % 100 / 10 = omega arith in
    let ones : n % 10 ≡ n % 100 % 10 = omega arith in
    let rest : n / 10 / 10 ≡ n / 100 = omega arith in
    decimal_large n (omega arith)
    ∙ ap (λ l. l ++ ((48 + n % 10) ∷ [])) (decimal_large (n / 10) (omega arith))
    ∙ append_assoc (decimal (n / 10 / 10)) _ _
    ∙ ap (λ x. decimal x ++ ((48 + n / 10 % 10) ∷ (48 + n % 10) ∷ [])) rest
    ∙ ap (λ x. decimal (n / 100) ++ ((48 + x) ∷ (48 + n % 10) ∷ [])) tens
    ∙ ap (λ x. decimal (n / 100) ++ ((48 + n % 100 / 10) ∷ (48 + x) ∷ [])) ones

pub length_pair : (n : ℕ) → 100 ≤ n → length (decimal n) ≡ length (decimal (n / 100)) + 2
length_pair n h = ap length (decimal_pair n h) ∙ length-append (decimal (n / 100)) _

pub decimal_two : (n : ℕ) → 10 ≤ n → n < 100 → decimal n ≡ (48 + n / 10) ∷ (48 + n % 10) ∷ []
decimal_two n l h = decimal_large n l ∙ ap (λ x. x ++ ((48 + n % 10) ∷ [])) (decimal_small (n / 10) (omega arith))

-- the last digits of n stored from the place on, behind those of rest, which are still to be put from place at on
pub record Behind (b : List ℕ) (at n rest place : ℕ) (out : List ℕ) : Type 0 where
  pub tail : List ℕ
  pub whole : decimal rest ++ tail ≡ decimal n
  pub from : place ≡ at + length (decimal rest)
  pub buffer : out ≡ put b place tail

pub behind_none : (b : List ℕ) (at n end : ℕ) → end ≡ at + length (decimal n) → Behind b at n n end b
behind_none b at n end e = record { tail = []; whole = append-nil (decimal n); from = e; buffer = sym (put_none b end) }

module _ (b : List ℕ) (at n rest place : ℕ) (out : List ℕ) (room : at + length (decimal n) ≤ length b) (w : Behind b at n rest place out) where
  -- they end where n's do
  digits : length (decimal rest) + length w.tail ≡ length (decimal n)
  digits = sym (length-append (decimal rest) w.tail) ∙ ap length w.whole

  pub behind_place : place ≤ at + length (decimal n)
  behind_place = omega (arith, w.from, digits)

  -- digits put before them
  before : (u new : List ℕ) (from : ℕ) → place ≡ from + length u → at ≤ from → new ≡ put out from u → new ≡ put b from (u ++ w.tail)
  before u new from p h e =
      e ∙ ap (λ o. put o from u) (w.buffer ∙ ap (λ k. put b k w.tail) p) ∙ put_before b from u w.tail (omega (arith, w.from, digits, p))

  -- two more of a number that has three or more
  pub behind_pair : (new : List ℕ) → 100 ≤ rest → new ≡ put out (place - 2) ((48 + rest % 100 / 10) ∷ (48 + rest % 100 % 10) ∷ [])
      → Behind b at n (rest / 100) (place - 2) new
  behind_pair new h e =
      let d = decimal_pair rest h in
      let u : List ℕ = (48 + rest % 100 / 10) ∷ (48 + rest % 100 % 10) ∷ [] in
      let l = length_pair rest h in
      record {
        tail = u ++ w.tail;
        whole = sym (append_assoc (decimal (rest / 100)) u w.tail) ∙ ap (λ x. x ++ w.tail) (sym d) ∙ w.whole;
        from = omega (arith, w.from, l);
        buffer = before u new (place - 2) (omega (arith, w.from, l)) (omega (arith, w.from, l)) e;
      }

  -- the first two, and the first one
  pub behind_two : (new : List ℕ) → 10 ≤ rest → rest < 100 → new ≡ put out at ((48 + rest / 10) ∷ (48 + rest % 10) ∷ []) → new ≡ put b at (decimal n)
  behind_two new l h e =
      let d = decimal_two rest l h in
      before ((48 + rest / 10) ∷ (48 + rest % 10) ∷ []) new at (w.from ∙ ap (λ x. at + length x) d) (omega arith) e
      ∙ ap (put b at) (ap (λ x. x ++ w.tail) (sym d) ∙ w.whole)

  pub behind_one : (x : ℕ) → rest < 10 → x ≡ 48 + rest → at < length out → set out at x ≡ put b at (decimal n)
  behind_one x h e o =
      let d = decimal_small rest h in
      before (x ∷ []) (set out at x) at (w.from ∙ ap (λ y. at + length y) d) (omega arith) (put_one out at x o)
      ∙ ap (λ y. put b at ((y ∷ []) ++ w.tail)) e
      ∙ ap (put b at) (ap (λ y. y ++ w.tail) (sym d) ∙ w.whole)

pub length_field : (n end : ℕ) → length (field n end) ≡ length (decimal n) + 1
unfolding field
length_field n end = length-append (decimal n) _
