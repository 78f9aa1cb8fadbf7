-- `vote_of` meets its contract: the four parts are those of the two samples.
use mathlib.Core.Path.{ap₂, ◌∙◌}
use Rattle.soft_theory.specs.Numbers.{f32}
use Rattle.soft_theory.specs.Complex.{term}
use Rattle.soft_vote_sums.specs.Pair.{pair}
use Rattle.soft_vote_sums.proofs.Steps.{sample_is}
use Rattle.soft_vote_sums.proofs.Samples.vote_of.Goals as goal

pub returns : goal.returns
unfolding pair
returns c =
    c.vote_term.ensures
    ∙ ap₂ (term f32) (sample_is _ _ _ _ _ c.part.ensures c.part-2.ensures) c.at.ensures
