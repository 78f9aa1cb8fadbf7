-- The question of a part of a list, and what a call has asked so far.
use Rattle.std.specs.Prelude.{ℕ, ◌+◌, ◌<◌, ◌≡◌, Bool, true, List, Result, Ok, Err}
use Rattle.code_theory.specs.Sum.{at}
use Rattle.code_questions.specs.declared.Refusal.{Refusal}
use Rattle.code_questions.specs.Refusal.{number}

-- r tells whether the n symbols of s from place i on are below q
pub record Tells (r : Bool) (q n : ℕ) (s : List ℕ) (i : ℕ) : Type 0 where
  pub yes : r ≡ true → (l : ℕ) → l < n → at s (i + l) < q
  pub all : ((l : ℕ) → l < n → at s (i + l) < q) → r ≡ true

-- the number of the refusal, or 0 where there is none: that of the first question answered no
unfoldable pub refusal : {A : Type 0} → Result A Refusal → ℕ
refusal (Ok a) = 0
refusal (Err r) = number r
