-- The two sums of a vote, as the code keeps them (docs/REQUIREMENTS.md: Soft sums).
use Rattle.std.specs.Prelude.{Float}
use Rattle.soft_theory.specs.Complex.{Complex}
use Rattle.soft_vote_sums.specs.declared.Sums.{Sums}

-- both sums as one complex number
unfoldable pub pair : Sums → Complex Float
pair s = record { re = s.re; im = s.im }
