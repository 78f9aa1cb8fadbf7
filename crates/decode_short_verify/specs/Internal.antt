-- The candidate of a word, and the errors of the word.
use Rattle.std.specs.Prelude.{ℕ, suc, ◌+◌, ◌%◌, ◌^◌, ◌<◌, ◌≡◌, List}
use Rattle.code_theory.specs.Sum.{at}
use Rattle.code_theory.specs.Modular.{sub_mod}
use Rattle.code_theory.specs.Code.{linear}
use Rattle.code_theory.specs.Near as near
use Rattle.code_theory.specs.Internal.{error}
use Rattle.swar_theory.specs.Internal.{digit}
use Rattle.swar_lanes.specs.Internal.{offset, Lanes}
use Rattle.decode_short_candidate.specs.Internal.{OnlyCandidate}

-- the lanes of r are those of x minus the word of the constant a and the first four coefficients of the message d, modulo q
abbrev pub Left : ℕ → ℕ → ℕ → List ℕ → ℕ → Type 0
Left q x a d r = Lanes r (λ t. sub_mod q (digit 4 x t) ((a + linear 4 (λ k. at d (suc k)) (offset t)) % q))

-- d is the only message that can be near w, wrong is its distance, and place i is the error of place i
pub record Verifies (q m : ℕ) (w d : List ℕ) (wrong : ℕ) (place : ℕ → ℕ) : Type 0 where
  pub candidate : OnlyCandidate q m w d
  pub distance : wrong ≡ near.distance q m (at d) (at w)
  pub errors : (i : ℕ) → i < 2 ^ m → place i ≡ error q m (at d) (at w) i
