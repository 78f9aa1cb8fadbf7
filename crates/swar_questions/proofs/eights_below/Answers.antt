-- `eights_below` meets its contract.
use Rattle.std.proofs.Common.{arith}
use Rattle.swar_questions.proofs.MaskLaws.{mask_tells, tells_none, tells_eight}
use Rattle.swar_questions.proofs.eights_below.Goals as goal

pub loop-c-init : goal.loop-c-init
loop-c-init g c = tells_none _ _

pub loop-c-preserved : goal.loop-c-preserved
loop-c-preserved g c =
    tells_eight _ _ _ _ _ c.loop-c.invariant
    (mask_tells _ 8 _ _ _ _ c.requires.0 (omega arith) (record { fits = omega arith; each = c.eight-x.ensures }) c.mask.ensures)
