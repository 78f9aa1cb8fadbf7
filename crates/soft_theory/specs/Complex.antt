-- Samples, the terms of a vote and their sums (docs/REQUIREMENTS.md: Soft samples, Soft sums).
use Rattle.std.specs.Prelude.{ℕ, zero, suc, List, get_or}
use Rattle.soft_theory.specs.Numbers.{Numbers}

-- a complex number: a sample, a term, or the two sums of a vote
pub record Complex (A : Type 0) : Type 0 where
  pub re : A
  pub im : A

-- the sample at index i, from the slices of real and imaginary parts; 0 past their ends
unfoldable pub sample : {A : Type 0} → Numbers A → List A → List A → ℕ → Complex A
sample N re im i = record { re = get_or re i (N.number 0); im = get_or im i (N.number 0) }

-- the term of a vote, with y at i + 2 ^ k and p at i
unfoldable pub term : {A : Type 0} → Numbers A → Complex A → Complex A → Complex A
term N y p = record {
  re = N.add (N.mul y.re p.re) (N.mul y.im p.im);
  im = N.sub (N.mul y.im p.re) (N.mul y.re p.im);
}

-- z turned back by 0 to 3 quarter turns, by swaps and sign changes
unfoldable pub turn_back : {A : Type 0} → Numbers A → ℕ → Complex A → Complex A
turn_back N zero z = z
turn_back N (suc zero) z = record { re = z.im; im = N.neg z.re }
turn_back N (suc (suc zero)) z = record { re = N.neg z.re; im = N.neg z.im }
turn_back N (suc (suc (suc t))) z = record { re = N.neg z.im; im = z.re }

-- the two sums plus one term
unfoldable pub plus : {A : Type 0} → Numbers A → Complex A → Complex A → Complex A
plus N s z = record { re = N.add s.re z.re; im = N.add s.im z.im }

-- the next state, or the same where the bit is 1
unfoldable pub step_if_clear : {S : Type 0} → ℕ → (S → S) → S → S
step_if_clear zero step s = step s
step_if_clear (suc b) step s = s

-- from s one step after the other, for each index i below n whose bit closed i is 0, upward
unfoldable pub upward : {S : Type 0} → ℕ → (ℕ → ℕ) → (ℕ → S → S) → S → S
upward zero closed step s = s
upward (suc n) closed step s = step_if_clear (closed n) (step n) (upward n closed step s)

-- the running sums of z i over these indices, from +0
unfoldable pub sums : {A : Type 0} → Numbers A → ℕ → (ℕ → ℕ) → (ℕ → Complex A) → Complex A
sums N n closed z = upward n closed (λ i s. plus N s (z i)) (record { re = N.number 0; im = N.number 0 })

-- the ideal sample of a symbol: 127 turned by so many quarter turns
unfoldable pub ideal : {A : Type 0} → Numbers A → ℕ → Complex A
ideal N zero = record { re = N.number 127; im = N.number 0 }
ideal N (suc zero) = record { re = N.number 0; im = N.number 127 }
ideal N (suc (suc zero)) = record { re = N.neg (N.number 127); im = N.number 0 }
ideal N (suc (suc (suc s))) = record { re = N.number 0; im = N.neg (N.number 127) }
