-- Laws of differences modulo q, for every q from 1 on, and of the tests as numbers. Assumes nothing.
use Prim.Native.Nat.{ℕ, suc, ◌+◌, ◌*◌, ◌-◌, ◌/◌, ◌%◌, ◌≤◌, ◌<◌, min}
use mathlib.Core.Path.{◌≡◌, ap, sym, ◌∙◌}
use mathlib.Core.Logic.{◌≢◌}
use mathlib.Core.Bool.{cond}
use native.Mathlib.Nat.{mod-add-mod, add-mul-mod_self_left, mod-lt, mod-eq_of_lt, mod-add-div, mod-mod, zero-add}
use native.Mathlib.Decide.{ℕ_discrete}
use native.Mathlib.Omega.{arith}
use borrow.Author.Tests.{eq-eqb, ne_eqb}
use Rattle.code_theory.specs.Modular.{sub_mod, same, differ}

pub sub_mod_lt : (q a b : ℕ) → 0 < q → sub_mod q a b < q
unfolding sub_mod
sub_mod_lt q a b h = mod-lt _ h

-- with b below q, in the form that code computes
pub sub_mod_code : (q a b : ℕ) → b < q → sub_mod q a b ≡ (a + q - b) % q
unfolding sub_mod
sub_mod_code q a b h =
    let e : a + (q - b) ≡ a + q - b = omega arith in
    rw (mod-eq_of_lt h, e)

-- only the remainder of what is taken off counts
pub sub_mod_mod : (q a b : ℕ) → sub_mod q a (b % q) ≡ sub_mod q a b
unfolding sub_mod
sub_mod_mod q a b = rw mod-mod

-- what was added is taken off
pub sub_mod_add : (q a b : ℕ) → 0 < q → sub_mod q ((a + b) % q) b ≡ a % q
unfolding sub_mod
sub_mod_add q a b h =
    let e : a + b + (q - b % q) ≡ a + q * suc (b / q) = omega (arith, mod-add-div b q, mod-lt b h) in
    rw (mod-add-mod, e, add-mul-mod_self_left)

-- what was taken off is added
pub add_sub_mod : (q a b : ℕ) → 0 < q → (sub_mod q a b + b) % q ≡ a % q
unfolding sub_mod
add_sub_mod q a b h =
    let e : a + (q - b % q) + b ≡ a + q * suc (b / q) = omega (arith, mod-add-div b q, mod-lt b h) in
    rw (mod-add-mod, e, add-mul-mod_self_left)

-- the difference is the one number below q that brings b to a
pub sub_mod_is : (q a b z : ℕ) → 0 < q → z < q → (z + b) % q ≡ a % q → sub_mod q a b ≡ z
unfolding sub_mod
sub_mod_is q a b z h l e =
    sym (mod-add-mod a q _) ∙ ap (λ x. (x + (q - b % q)) % q) (sym e) ∙ sub_mod_add q z b h ∙ mod-eq_of_lt l

pub add_cancel : (q a b t : ℕ) → 0 < q → a < q → b < q → (a + t) % q ≡ (b + t) % q → a ≡ b
add_cancel q a b t h la lb e =
    sym (mod-eq_of_lt la) ∙ sym (sub_mod_add q a t h) ∙ ap (λ x. sub_mod q x t) e ∙ sub_mod_add q b t h ∙ mod-eq_of_lt lb

pub same_eq : (a b : ℕ) → a ≡ b → same a b ≡ 1
unfolding same
same_eq a b e = ap (λ t. cond t 1 0) (eq-eqb a b e)

pub same_ne : (a b : ℕ) → a ≢ b → same a b ≡ 0
unfolding same
same_ne a b d = ap (λ t. cond t 1 0) (ne_eqb a b d)

pub differ_eq : (a b : ℕ) → a ≡ b → differ a b ≡ 0
unfolding differ
differ_eq a b e = ap (λ t. cond t 0 1) (eq-eqb a b e)

pub differ_ne : (a b : ℕ) → a ≢ b → differ a b ≡ 1
unfolding differ
differ_ne a b d = ap (λ t. cond t 0 1) (ne_eqb a b d)

pub same_le : (a b : ℕ) → same a b ≤ 1
same_le a b = go (ℕ_discrete a b)
  where
    go : Dec (a ≡ b) → same a b ≤ 1
    go (yes e) = omega (arith, same_eq a b e)
    go (no d) = omega (arith, same_ne a b d)

pub differ_le : (a b : ℕ) → differ a b ≤ 1
differ_le a b = go (ℕ_discrete a b)
  where
    go : Dec (a ≡ b) → differ a b ≤ 1
    go (yes e) = omega (arith, differ_eq a b e)
    go (no d) = omega (arith, differ_ne a b d)

-- the Lee weight of a difference is never below the count of the place
pub differ_le_lee : (q a b : ℕ) → 0 < q → a < q → b < q → differ a b ≤ min (sub_mod q a b) (q - sub_mod q a b)
differ_le_lee q a b h la lb = go (ℕ_discrete a b)
  where
    go : Dec (a ≡ b) → differ a b ≤ min (sub_mod q a b) (q - sub_mod q a b)
    go (yes e) = omega (arith, differ_eq a b e)
    go (no d) = omega (arith, differ_ne a b d, sub_mod_lt q a b h, apart)
      where
        apart : sub_mod q a b ≢ 0
        apart e = d (sym (mod-eq_of_lt la) ∙ sym (add_sub_mod q a b h) ∙ ap (λ x. (x + b) % q) e ∙ rw zero-add (mod-eq_of_lt lb))
