-- Symbols in the bytes of a number: digits of eight bits.
use Rattle.std.specs.Prelude.{ℕ, ◌+◌, ◌*◌, ◌^◌, ◌≤◌, ◌<◌, ◌≡◌, List, length}
use Rattle.code_theory.specs.Sum.{at}
use Rattle.swar_theory.specs.Internal.{digit}

-- x has n digits, which are f 0 to f (n - 1)
pub record Holds (n x : ℕ) (f : ℕ → ℕ) : Type 0 where
  pub fits : x < 2 ^ (8 * n)
  pub each : (l : ℕ) → l < n → digit 8 x l ≡ f l

-- the symbols of w from place i on
abbrev pub from : List ℕ → ℕ → ℕ → ℕ
from w i l = at w (i + l)

-- v is w with the first n digits of x in the places from i on
pub record Put (n x i : ℕ) (w v : List ℕ) : Type 0 where
  pub size : length v ≡ length w
  pub new : (l : ℕ) → l < n → at v (i + l) ≡ digit 8 x l
  pub below : (j : ℕ) → j < i → at v j ≡ at w j
  pub above : (j : ℕ) → i + n ≤ j → at v j ≡ at w j
