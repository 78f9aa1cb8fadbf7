-- The loop's invariant: all is the sums of the first i samples, turned back.
use mathlib.Core.Path.{◌≡◌}
use Rattle.soft_theory.specs.Numbers.{f32}
use Rattle.soft_theory.specs.Complex.{sample}
use Rattle.soft_theory.proofs.SumsLaws.{back_to}
use Rattle.soft_vote_sums.specs.Pair.{pair}
use Rattle.soft_constant_sums.specs.Internal.{coefficients_in}
use Rattle.soft_constant_sums.proofs.constant_sums.Given as goal

abbrev pub invariant-loop-i : goal.invariant-loop-i
invariant-loop-i l = pair l.all ≡ back_to f32 l.samples.m (coefficients_in l.found) (sample f32 l.samples.re.now l.samples.im.now) l.i
