-- Turning a word changes the constant of its message and nothing else. Assumes nothing.
use Prim.Native.Nat.{ℕ, zero, suc, ◌+◌, ◌*◌, ◌%◌, ◌^◌, ◌<◌}
use mathlib.Core.Path.{◌≡◌, refl, ap, ◌∙◌}
use mathlib.Core.Logic.{◌≢◌}
use mathlib.Core.List.{List, [], ◌∷◌}
use mathlib.Core.Option.{some}
use native.Mathlib.Nat.{mod-lt, mod-eq_of_lt, mod-add-mod}
use native.Mathlib.Omega.{arith}
use lib.ListN.{set}
use Rattle.code_theory.specs.Sum.{at}
use Rattle.code_theory.specs.Modular.{sub_mod, differ}
use Rattle.code_theory.specs.Code.{linear, symbol_at, codeword, Symbols, Below}
use Rattle.code_theory.specs.Near.{distance}
use Rattle.code_theory.specs.Turn.{turn, altered}
use Rattle.code_theory.specs.Internal.{turned}
use Rattle.code_theory.specs.Nearest.{nearest}
use Rattle.code_theory.proofs.SumLaws.{sum_ext}
use Rattle.code_theory.proofs.ModularLaws.{sub_mod_mod, sub_mod_add}
use Rattle.code_theory.proofs.CodeLaws.{codeword_at, distance_ext}
use Rattle.code_theory.proofs.WinnerLaws.{apart}
use Rattle.code_theory.proofs.NearestLaws.{near_found}

-- TURNED WORDS: the word of a message with its constant turned is the message's word turned
pub symbol_at_turned : (q m t : ℕ) (s : ℕ → ℕ) (i : ℕ) → symbol_at q m (turned q t s) i ≡ turn q t (symbol_at q m s) i
unfolding turned turn symbol_at
symbol_at_turned q m t s i =
    let l = linear m (λ k. s (suc k)) i in
    let e : s 0 + t + l ≡ s 0 + l + t = omega arith in
    rw (mod-add-mod (s 0 + t) q, mod-add-mod (s 0 + l) q, e)

pub turned_below : (q m t : ℕ) (s : ℕ → ℕ) → 0 < q → Below q m s → Below q m (turned q t s)
unfolding turned
turned_below q m t s h b zero l = mod-lt _ h
turned_below q m t s h b (suc k) l = b (suc k) l

-- ALTERED: the altered symbols of a word are its distance from the turned message
pub altered_distance : (q m t : ℕ) (s x y : ℕ → ℕ) → ((i : ℕ) → i < 2 ^ m → x i ≡ symbol_at q m s i) → altered q m t x y ≡ distance q m (turned q t s) y
unfolding altered distance turn
altered_distance q m t s x y h =
    sum_ext (2 ^ m) _ _ (λ i l. rw (symbol_at_turned q m t s i) (ap (λ z. differ ((z + t) % q) (y i)) (h i l)))

-- NEVER BOTH: no word lies within a quarter of two words with different coefficients, each turned by a number of its own
pub never_both : (q m : ℕ) → 0 < q → (a b : List ℕ) → Symbols q (suc m) a → Symbols q (suc m) b → (k : ℕ) → k < m → at a (suc k) ≢ at b (suc k)
    → (t u : ℕ) (y : ℕ → ℕ) → 4 * altered q m t (at (codeword q m a)) y < 2 ^ m → 4 * altered q m u (at (codeword q m b)) y < 2 ^ m → ⊥
unfolding turned
never_both q m h a b ha hb k l d t u y na nb =
    omega (
      arith,
      altered_distance q m t (at a) _ y (codeword_at q m a),
      altered_distance q m u (at b) _ y (codeword_at q m b),
      apart q m h (turned q t (at a)) (turned_below q m t (at a) h ha.below) y (turned q u (at b)) (turned_below q m u (at b) h hb.below) k l d,
    )

-- a message with another constant
pub constant_set : (q m c : ℕ) (s : List ℕ) → c < q → Symbols q (suc m) s → Symbols q (suc m) (set s 0 c)
constant_set q m c [] h y = absurd (omega (arith, y.size))
constant_set q m c (x ∷ s) h y = record { size = y.size; below = below }
  where
    below : (i : ℕ) → i < suc m → at (c ∷ s) i < q
    below zero l = h
    below (suc i) l = y.below (suc i) l

pub turned_set : (q m t c : ℕ) (s : List ℕ) → Symbols q (suc m) s → (k : ℕ) → turned q t (at (set s 0 c)) k ≡ at (set s 0 ((c + t) % q)) k
unfolding turned
turned_set q m t c [] y k = absurd (omega (arith, y.size))
turned_set q m t c (x ∷ s) y zero = refl
turned_set q m t c (x ∷ s) y (suc k) = refl

-- the word of s with the constant c, turned by t and altered: its distance from s with the constant turned
pub altered_set : (q m t c : ℕ) (s : List ℕ) (y : ℕ → ℕ) → Symbols q (suc m) s
    → altered q m t (at (codeword q m (set s 0 c))) y ≡ distance q m (at (set s 0 ((c + t) % q))) y
altered_set q m t c s y h =
    altered_distance q m t (at (set s 0 c)) _ y (codeword_at q m (set s 0 c)) ∙ distance_ext q m _ _ y y (λ k l. turned_set q m t c s h k) (λ i l. refl)

-- READ THROUGH A TURN: with fewer than a quarter of its symbols altered, a turned word reads as its message with the constant turned
pub nearest_turned : (q m t c : ℕ) → 0 < q → (s y : List ℕ) → Symbols q (suc m) s → 4 * altered q m t (at (codeword q m (set s 0 c))) (at y) < 2 ^ m
    → nearest q m y ≡ some (set s 0 ((c + t) % q))
nearest_turned q m t c h s y k n =
    near_found q m h y _ (constant_set q m ((c + t) % q) s (mod-lt _ h) k) (omega (arith, altered_set q m t c s (at y) k))

-- the constants of two words, turned alike, differ by what was added between them
pub sub_mod_turned : (q a d t : ℕ) → 0 < q → d < q → sub_mod q (((a + d) % q + t) % q) ((a + t) % q) ≡ d
sub_mod_turned q a d t h l =
    let e : a + d + t ≡ d + (a + t) = omega arith in
    rw (sub_mod_mod, mod-add-mod, e) (sub_mod_add q d (a + t) h ∙ mod-eq_of_lt l)
