-- `vote_term` meets its contract: the operations are those of the definition.
use mathlib.Core.Path.{refl}
use Rattle.soft_theory.specs.Complex.{term}
use Rattle.soft_vote_sums.specs.Pair.{pair}
use Rattle.soft_vote_sums.proofs.Sums.vote_term.Goals as goal

pub returns : goal.returns
unfolding pair term
returns c = refl
