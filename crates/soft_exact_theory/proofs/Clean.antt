-- A clean word is read. Assumes nothing.
use mathlib.Core.Path.{◌≡◌, refl, sym, ap, ap₂, ◌∙◌}
use Prim.Native.Nat.{ℕ, zero, suc, ◌+◌, ◌%◌, ◌^◌, ◌≤◌, ◌<◌}
use native.Mathlib.Nat.{mod-lt, mod-add-mod, add-mod-mod, add_assoc}
use native.Mathlib.Omega.{arith}
use mathlib.Core.Bool.{true}
use mathlib.Core.List.{List, [], map}
use lib.IntN.{ℤ, pos}
use lib.ListN.{length, get_or, length-map, get_or-map}
use lib.Ieee.{Float}
use Rattle.code_theory.proofs.EveryLaws.{every_at, every_of}
use Rattle.code_theory.specs.Sum.{at, every}
use Rattle.code_theory.specs.Index.{bit}
use Rattle.code_theory.specs.Code.{linear, symbol_at, codeword, Symbols}
use Rattle.code_theory.specs.Question.{accepted}
use Rattle.code_theory.proofs.IndexLaws.{partner_lt}
use Rattle.code_theory.proofs.CodeLaws.{linear_partner, symbol_at_lt, codeword_length, codeword_at}
use Rattle.soft_theory.specs.Numbers.{f32, integers}
use Rattle.soft_theory.specs.Complex.{sample, term, turn_back, ideal}
use Rattle.soft_theory.specs.Decision.{is_sure, symbol}
use Rattle.soft_theory.specs.Soft.{in_range, all_in_range, soft_vote, read_answer, read_message, clean_re, clean_im}
use Rattle.soft_theory.proofs.SumsLaws.{within}
use Rattle.soft_exact_theory.specs.Whole.{Whole, Wholes}
use Rattle.soft_exact_theory.proofs.WholeLaws.{whole_neg, whole_number}
use Rattle.soft_exact_theory.proofs.Leans.{Leans, leans_to, leans_tested}
use Rattle.soft_exact_theory.proofs.LeaningRead.{Leaning, leaning_read, leaning_vote}

-- ---- the votes of ideal samples, for each of the four symbols and each turn
terms_lean : every 4 (λ a. every 4 (λ d. leans_to d (term integers (ideal integers ((a + d) % 4)) (ideal integers a)))) ≡ true
unfolding every term ideal
terms_lean = refl

backs_lean : every 4 (λ a. every 4 (λ t. leans_to a (turn_back integers t (ideal integers ((a + t) % 4))))) ≡ true
unfolding every turn_back ideal
backs_lean = refl

term_leans : (a d : ℕ) → a < 4 → d < 4 → Leans d (term integers (ideal integers ((a + d) % 4)) (ideal integers a))
term_leans a d h k = leans_tested d _ (every_at 4 _ (every_at 4 _ terms_lean a h) d k)

back_leans : (a t : ℕ) → a < 4 → t < 4 → Leans a (turn_back integers t (ideal integers ((a + t) % 4)))
back_leans a t h k = leans_tested a _ (every_at 4 _ (every_at 4 _ backs_lean a h) t k)

-- ---- ideal samples
ideal_re_whole : (s : ℕ) → Whole (ideal f32 s).re (ideal integers s).re
unfolding ideal
ideal_re_whole zero = whole_number 127 (omega arith)
ideal_re_whole (suc zero) = whole_number 0 (omega arith)
ideal_re_whole (suc (suc zero)) = whole_neg _ (pos 127) (whole_number 127 (omega arith))
ideal_re_whole (suc (suc (suc s))) = whole_number 0 (omega arith)

ideal_im_whole : (s : ℕ) → Whole (ideal f32 s).im (ideal integers s).im
unfolding ideal
ideal_im_whole zero = whole_number 0 (omega arith)
ideal_im_whole (suc zero) = whole_number 127 (omega arith)
ideal_im_whole (suc (suc zero)) = whole_number 0 (omega arith)
ideal_im_whole (suc (suc (suc s))) = whole_neg _ (pos 127) (whole_number 127 (omega arith))

ideal_in_range : (s : ℕ) → (in_range integers (ideal integers s).re ≡ true) × (in_range integers (ideal integers s).im ≡ true)
unfolding ideal in_range
ideal_in_range zero = (refl, refl)
ideal_in_range (suc zero) = (refl, refl)
ideal_in_range (suc (suc zero)) = (refl, refl)
ideal_in_range (suc (suc (suc s))) = (refl, refl)

-- ---- lists of them
map_at : {A : Type 0} (f : ℕ → A) (l : List ℕ) (i : ℕ) (d : A) → i < length l → get_or (map f l) i d ≡ f (at l i)
map_at f l i d h = within (map f l) i d (f 0) (omega (arith, length-map l f)) ∙ get_or-map f l i 0

maps_whole : (f : ℕ → Float) (g : ℕ → ℤ) (l : List ℕ) → ((s : ℕ) → Whole (f s) (g s)) → Wholes (map f l) (map g l)
maps_whole f g l h = record {
  long = length-map l f ∙ sym (length-map l g);
  each = λ i m. let k : i < length l = omega (arith, length-map l f) in rw (map_at f l i (f32.number 0) k, map_at g l i (integers.number 0) k) (h (at l i));
}

map_in_range : (g : ℕ → ℤ) (l : List ℕ) → ((s : ℕ) → in_range integers (g s) ≡ true) → all_in_range integers (map g l) ≡ true
unfolding all_in_range
map_in_range g l h = every_of (length (map g l)) _ (λ i m. rw (map_at g l i (integers.number 0) (omega (arith, length-map l g))) (h (at l i)))

module _ (m : ℕ) (t : List ℕ) where
  clean_size : {A : Type 0} (f : ℕ → A) → length (map f (codeword 4 m t)) ≡ 2 ^ m
  clean_size f = length-map (codeword 4 m t) f ∙ codeword_length 4 m t

  clean_sample : (i : ℕ) → i < 2 ^ m → sample integers (clean_re integers m t) (clean_im integers m t) i ≡ ideal integers (symbol_at 4 m (at t) i)
  unfolding sample clean_re clean_im
  clean_sample i l =
      let h : i < length (codeword 4 m t) = omega (arith, codeword_length 4 m t) in
      ap₂ (λ a b. record { re = a; im = b }) (map_at (λ s. (ideal integers s).re) (codeword 4 m t) i (pos 0) h) (map_at (λ s. (ideal integers s).im) (codeword 4 m t) i (pos 0) h)
      ∙ ap (ideal integers) (codeword_at 4 m t i l)

  module _ (S : Symbols 4 (suc m) t) where
    -- the partner's symbol
    partner : (k : ℕ) → k < m → (i : ℕ) → bit k i ≡ 0 → symbol_at 4 m (at t) (i + 2 ^ k) ≡ (symbol_at 4 m (at t) i + at t (suc k)) % 4
    unfolding symbol_at
    partner k h i e =
        ap (λ x. (at t 0 + x) % 4) (linear_partner k m h (λ j. at t (suc j)) i e)
        ∙ ap (λ x. x % 4) (sym (add_assoc (at t 0) _ _))
        ∙ sym (mod-add-mod _ 4 _)

    clean_leaning : Leaning m (at t) (sample integers (clean_re integers m t) (clean_im integers m t))
    unfolding symbol_at
    clean_leaning = record {
      symbols = S.below;
      votes = λ k h i l e. rw (clean_sample (i + 2 ^ k) (partner_lt k m i h l e), clean_sample i l, partner k h i e)
          (term_leans (symbol_at 4 m (at t) i) (at t (suc k)) (symbol_at_lt 4 m (at t) i (omega arith)) (S.below (suc k) (omega arith)));
      backs = λ i l. rw (clean_sample i l, ← add-mod-mod (at t 0) (linear m (λ k. at t (suc k)) i) 4)
          (back_leans (at t 0) (linear m (λ k. at t (suc k)) i % 4) (S.below 0 (omega arith)) (mod-lt _ (omega arith)));
    }

    module _ (l : 2 ≤ m) (h : m ≤ 8) where
      -- CLEAN WORD: the ideal samples of the word of any message t are read as t
      pub clean_read : (message : List ℕ) → length message ≡ suc m
          → (read_answer f32 m message (clean_re f32 m t) (clean_im f32 m t) ≡ accepted []) × (read_message f32 m message (clean_re f32 m t) (clean_im f32 m t) ≡ t)
      unfolding clean_re clean_im
      clean_read message M =
          leaning_read m t message _ _ (clean_re integers m t) (clean_im integers m t) l h S.size M
          (maps_whole _ _ (codeword 4 m t) ideal_re_whole) (maps_whole _ _ (codeword 4 m t) ideal_im_whole)
          (clean_size (λ s. (ideal integers s).re)) (clean_size (λ s. (ideal integers s).im))
          (map_in_range _ (codeword 4 m t) (λ s. (ideal_in_range s).0)) (map_in_range _ (codeword 4 m t) (λ s. (ideal_in_range s).1))
          clean_leaning

      -- and each of its votes is sure
      pub clean_vote : (k : ℕ) → k < m
          → (is_sure (soft_vote f32 m k (clean_re f32 m t) (clean_im f32 m t)) ≡ true) × (symbol (soft_vote f32 m k (clean_re f32 m t) (clean_im f32 m t)) ≡ at t (suc k))
      unfolding clean_re clean_im
      clean_vote k j =
          leaning_vote m k (at t) _ _ (clean_re integers m t) (clean_im integers m t) l h
          (maps_whole _ _ (codeword 4 m t) ideal_re_whole) (maps_whole _ _ (codeword 4 m t) ideal_im_whole)
          (clean_size (λ s. (ideal integers s).re)) (clean_size (λ s. (ideal integers s).im))
          (map_in_range _ (codeword 4 m t) (λ s. (ideal_in_range s).0)) (map_in_range _ (codeword 4 m t) (λ s. (ideal_in_range s).1))
          clean_leaning j
