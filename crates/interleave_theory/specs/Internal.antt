-- What the loops leave behind them, and what is asked of the slices alone.
use Rattle.std.specs.Prelude.{ℕ, ◌*◌, ◌<◌, ◌≡◌, List, eqb, length}
use Rattle.code_theory.specs.Sum.{at}
use Rattle.code_theory.specs.Question.{ask, all_below, after}
use Rattle.interleave_theory.specs.Place.{across, transposed}
use Rattle.interleave_theory.specs.Group.{group_refusal}

-- the first k places of y are those of x, which has a rows of b symbols, transposed
pub record Filled (a b k : ℕ) (x y : List ℕ) : Type 0 where
  pub places : (p : ℕ) → p < k → at y p ≡ at x (across a b p)

-- all of its first a × b places are
abbrev pub Transposes : ℕ → ℕ → List ℕ → List ℕ → Type 0
Transposes a b x y = Filled a b (a * b) x y

-- 7 for the source, 7 for the target and 8 for the source, where each has to have so many symbols
unfoldable pub slices_refusal : ℕ → ℕ → List ℕ → List ℕ → ℕ
slices_refusal q size source target =
    ask (eqb (length source) size) 7
    (ask (eqb (length target) size) 7
    (ask (all_below q source) 8
    0))

-- the target t after either call: a rows of b symbols of x transposed, or t as it was
unfoldable pub moved_target : ℕ → ℕ → ℕ → ℕ → ℕ → List ℕ → List ℕ → List ℕ
moved_target a b q m count x t = after (group_refusal q m count x t) (transposed a b x) t

-- the number k of the first no, and the target y: a rows of b symbols of x transposed where k is 0, else t as it was
pub record Checked (q a b : ℕ) (x t : List ℕ) (k : ℕ) (y : List ℕ) : Type 0 where
  pub number : k ≡ slices_refusal q (a * b) x t
  pub target : y ≡ after k (transposed a b x) t
