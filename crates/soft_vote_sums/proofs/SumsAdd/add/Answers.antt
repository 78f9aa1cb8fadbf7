-- `add` meets its contract: the operations are those of the definition.
use mathlib.Core.Path.{refl}
use Rattle.soft_theory.specs.Complex.{plus}
use Rattle.soft_vote_sums.specs.Pair.{pair}
use Rattle.soft_vote_sums.proofs.SumsAdd.add.Goals as goal

pub returns : goal.returns
unfolding pair plus
returns c = refl
