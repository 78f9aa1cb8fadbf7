-- What a reader of words finds before it tests near, and what it answers and leaves: the statements that every reader keeps.
use Rattle.std.specs.Prelude.{ℕ, suc, ◌≤◌, ◌≡◌, true, false, List, length, Option, Some, None}
use Rattle.code_theory.specs.Sum.{at}
use Rattle.code_theory.specs.Code.{Below}
use Rattle.code_theory.specs.Near as near
use Rattle.code_theory.specs.Internal.{OnlyNear}
use Rattle.code_theory.specs.Nearest.{is_readable, near_message, near_distance, near_margin}
use Rattle.decode_reading.specs.declared.Reading.{Reading}

-- the message at the front of d is the only one that can be near the word w, and wrong is its distance
pub record Measured (q m : ℕ) (w d : List ℕ) (wrong : ℕ) : Type 0 where
  pub size : suc m ≤ length d
  pub below : Below q m (at d)
  pub only : OnlyNear q m w d
  pub distance : wrong ≡ near.distance q m (at d) (at w)

-- a word w that is read leaves its near message in s, and the reading tells its wrong places and margin; a doubtful one, which has no
-- reading, leaves s as s₀
unfoldable pub Settled : ℕ → ℕ → List ℕ → List ℕ → List ℕ → Option Reading → Type 0
Settled q m w s₀ s (Some reading) = (is_readable q m w ≡ true) × (near_message q m w ≡ s) × (near_distance q m w ≡ reading.wrong) × (near_margin q m w ≡ reading.margin)
Settled q m w s₀ s None = (is_readable q m w ≡ false) × (s ≡ s₀)
