-- The questions of both calls in parts, and what is decided of a word on the way.
use Rattle.std.specs.Prelude.{◌≡◌, ℕ, suc, ◌^◌, ◌<◌, Bool, true, false, ◌&&◌, List, eqb, length, Option, Some, None, Float}
use Rattle.code_theory.specs.Sum.{at, every}
use Rattle.code_theory.specs.Question.{ask, is_variables}
use Rattle.soft_theory.specs.Numbers.{f32}
use Rattle.soft_theory.specs.Complex.{sample}
use Rattle.soft_theory.specs.Decision.{Decision, decide, is_sure}
use Rattle.soft_theory.specs.Soft.{vote_sums, coefficient, decision, all_in_range}

-- the questions of the soft read up to 10, for a message slice of so many symbols
unfoldable pub sample_refusal : ℕ → ℕ → List Float → List Float → ℕ
sample_refusal m size re im =
    ask (is_variables m) 2
    (ask (eqb size (suc m)) 5
    (ask (eqb (length re) (2 ^ m)) 7
    (ask (eqb (length im) (2 ^ m)) 7
    (ask (all_in_range f32 re && all_in_range f32 im) 10
    0))))

-- whether the first k coefficients are sure
unfoldable pub sure_to : ℕ → List Float → List Float → ℕ → Bool
sure_to m re im k = every k (λ j. is_sure (decide f32 (vote_sums f32 m j (sample f32 re im))))

-- found holds the first k coefficients, from place 1 on
pub record Found (m : ℕ) (re im : List Float) (k : ℕ) (found : List ℕ) : Type 0 where
  pub size : length found ≡ 9
  pub zeroth : at found 0 ≡ 0
  pub each : (j : ℕ) → j < k → at found (suc j) ≡ coefficient f32 m (sample f32 re im) j

-- found holds the coefficients where all are sure; none where one is not
abbrev pub Decided : ℕ → List Float → List Float → List ℕ → Option (Unit {0}) → Type 0
Decided m re im found None = sure_to m re im m ≡ false
Decided m re im found (Some u) = (sure_to m re im m ≡ true) × Found m re im m found

-- the decision for the constant
unfoldable pub constant_decision : ℕ → List Float → List Float → Decision Float
constant_decision m re im = decision f32 m (sample f32 re im) 0
