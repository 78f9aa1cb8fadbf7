-- Question 10 part after part. Assumes nothing.
use Prim.Native.Nat.{ℕ, zero, suc}
use mathlib.Core.Path.{◌≡◌, refl, ap, sym, ◌∙◌}
use mathlib.Core.Bool.{Bool, true, false, ◌&&◌}
use mathlib.Core.List.{List, [], ◌∷◌}
use lib.IntN.{pos}
use lib.ListN.{length, get_or}
use lib.Ieee.{Float, binary32, of_bits, of_int, neg, le}
use Rattle.std.specs.List.{fold}
use Rattle.code_theory.specs.Sum.{every}
use Rattle.soft_theory.specs.Numbers.{f32}
use Rattle.soft_theory.specs.Soft.{in_range, all_in_range}

top_bits : of_bits binary32 1123942400 ≡ of_int binary32 (pos 127)
unfolding of_bits of_int
top_bits = refl

pub in_range_lem : (x : Float) → (le (neg (of_bits binary32 1123942400)) x && le x (of_bits binary32 1123942400)) ≡ in_range f32 x
unfolding in_range
in_range_lem x = ap (λ t. le (neg t) x && le x t) top_bits

and_true_right : (a : Bool) → (a && true) ≡ a
and_true_right true = refl
and_true_right false = refl

and_swap : (a b c : Bool) → ((a && b) && c) ≡ (a && (b && c))
and_swap true b c = refl
and_swap false b c = refl

-- a test of all numbers from its front
every_front : (n : ℕ) (p : ℕ → Bool) → every (suc n) p ≡ (p 0 && every n (λ i. p (suc i)))
unfolding every
every_front zero p = sym (and_true_right (p 0))
every_front (suc n) p = ap (λ t. t && p (suc n)) (every_front n p) ∙ and_swap (p 0) (every n (λ i. p (suc i))) (p (suc n))

-- the parts one after the other
fold_from : (a : Bool) (x : List Float) → fold (λ b v. b && in_range f32 v) a x ≡ (a && all_in_range f32 x)
unfolding all_in_range every
fold_from a [] = sym (and_true_right a)
fold_from a (v ∷ x) =
    fold_from (a && in_range f32 v) x
    ∙ and_swap a (in_range f32 v) (all_in_range f32 x)
    ∙ ap (λ t. a && t) (sym (every_front (length x) (λ i. in_range f32 (get_or (v ∷ x) i (f32.number 0)))))

pub fold_range : (x : List Float) → fold (λ b v. b && in_range f32 v) true x ≡ all_in_range f32 x
fold_range x = fold_from true x
