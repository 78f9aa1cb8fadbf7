-- Floats that are whole numbers, for the theorems about them (docs/REQUIREMENTS.md: Exact sums).
use Rattle.std.specs.Prelude.{◌≡◌, ℕ, ◌≤◌, ◌<◌, Bool, true, false, List, ℤ, pos, neg_ℤ, nat_abs, length, get_or, Float}
use Rattle.std.specs.Float.Ieee.Exact.{HasValue}
use Rattle.soft_theory.specs.Numbers.{f32, integers}
use Rattle.soft_theory.specs.Complex.{Complex}
use Rattle.soft_theory.specs.Decision.{Decision, sure, unsure, refused}

-- k with a sign, true for minus
unfoldable pub signed : Bool → ℕ → ℤ
signed false k = pos k
signed true k = neg_ℤ (pos k)

-- x is finite and is the whole number z; +0 and -0 are both 0
pub record Whole (x : Float) (z : ℤ) : Type 0 where
  pub minus : Bool
  pub size : ℕ
  pub value : HasValue x minus size 1
  pub number : z ≡ signed minus size

-- every float of a list is a whole number
pub record Wholes (x : List Float) (z : List ℤ) : Type 0 where
  pub long : length x ≡ length z
  pub each : (i : ℕ) → i < length x → Whole (get_or x i (f32.number 0)) (get_or z i (integers.number 0))

-- both parts of a complex number are whole numbers
pub record WholeParts (x : Complex Float) (z : Complex ℤ) : Type 0 where
  pub re : Whole x.re z.re
  pub im : Whole x.im z.im

-- both parts are at most b in magnitude
pub record Within (b : ℕ) (z : Complex ℤ) : Type 0 where
  pub re : nat_abs z.re ≤ b
  pub im : nat_abs z.im ≤ b

-- the same answer of a vote: the same symbol or refusal number, and sums that are the same whole numbers
unfoldable pub Same : Decision Float → Decision ℤ → Type 0
Same (sure s x) (sure t z) = (s ≡ t) × WholeParts x z
Same (sure s x) (unsure z) = ⊥
Same (sure s x) (refused n) = ⊥
Same (unsure x) (sure t z) = ⊥
Same (unsure x) (unsure z) = WholeParts x z
Same (unsure x) (refused n) = ⊥
Same (refused n) (sure t z) = ⊥
Same (refused n) (unsure z) = ⊥
Same (refused n) (refused k) = n ≡ k
