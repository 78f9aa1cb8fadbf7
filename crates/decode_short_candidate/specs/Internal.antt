-- The candidate of a word in lanes: the only message that can be near it.
use Rattle.std.specs.Prelude.{ℕ, ◌<◌, ◌≡◌, List, [], ◌∷◌, length}
use Rattle.code_theory.specs.Sum.{at}
use Rattle.code_theory.specs.Modular.{sub_mod}
use Rattle.code_theory.specs.Internal.{OnlyNear}
use Rattle.swar_theory.specs.Internal.{digit}
use Rattle.swar_lanes.specs.Internal.{offset, Lanes, Held}
use Rattle.decode_short_errors.specs.Internal.{plain}

-- the lanes of r are those of x minus the word of the first four coefficients of the message d, modulo q
abbrev pub Rest : ℕ → ℕ → List ℕ → ℕ → Type 0
Rest q x d r = Lanes r (λ t. sub_mod q (digit 4 x t) (plain q d (offset t)))

-- the message with the constant a and five coefficients; a candidate has 0 for those from m on
unfoldable pub message : ℕ → ℕ → ℕ → ℕ → ℕ → ℕ → List ℕ
message a c0 c1 c2 c3 c4 = a ∷ c0 ∷ c1 ∷ c2 ∷ c3 ∷ c4 ∷ []

-- d has six symbols below q, and no other message than the one at its front can be near the word w of 2 ^ m places
pub record OnlyCandidate (q m : ℕ) (w d : List ℕ) : Type 0 where
  pub size : length d ≡ 6
  pub below : (k : ℕ) → k < 6 → at d k < q
  pub only : OnlyNear q m w d

-- d is the candidate of any word that x holds from its first place on
abbrev pub CandidateOf : ℕ → ℕ → ℕ → List ℕ → Type 0
CandidateOf q m x d = (w : List ℕ) → Held w 0 x → OnlyCandidate q m w d

-- d is the candidate of any word whose first sixteen places x holds, and y the next
abbrev pub CandidateOfBoth : ℕ → ℕ → ℕ → ℕ → List ℕ → Type 0
CandidateOfBoth q m x y d = (w : List ℕ) → Held w 0 x → Held w 16 y → OnlyCandidate q m w d
