-- `after_failure` meets its contract, by the error.
use mathlib.Core.Path.{ap, ◌∙◌}
use mir.Facts.{to_z-of_z}
use Rattle.text_chunks.specs.declared.Next.TheVariants.{Failed}
use Rattle.text_chunks.proofs.ReadingLaws.{failed_again, failed_told}
use Rattle.text_chunks.proofs.after_failure.Goals as goal

pub returns-then-error-eq-EINTR : goal.returns-then-error-eq-EINTR
returns-then-error-eq-EINTR c = failed_again c.args.error c.if-error-eq-EINTR.true c.ranges.error

pub returns : goal.returns
returns c = ap Failed (to_z-of_z c.ranges.error) ∙ failed_told c.args.error c.if-error-eq-EINTR.false
