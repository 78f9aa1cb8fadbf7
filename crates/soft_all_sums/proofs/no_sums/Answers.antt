-- `no_sums` meets its contract: eight zeros.
use Rattle.soft_all_sums.specs.Internal.{nones}
use mathlib.Core.Path.{refl}
use Rattle.soft_all_sums.proofs.no_sums.Goals as goal

pub returns : goal.returns
unfolding nones
returns c = refl
