-- `clear` meets its contract: each pattern has the lanes that it should, by computation.
use mathlib.Core.Path.{refl}
use native.Mathlib.Omega.{arith}
use Rattle.code_theory.specs.Sum.{every}
use Rattle.code_theory.specs.Index.{bit}
use Rattle.swar_theory.specs.Internal.{digit}
use Rattle.swar_lanes.proofs.LaneLaws.{clear_at}
use Rattle.swar_lanes.proofs.clear.Goals as goal

pub returns-in-0 : goal.returns-in-0
unfolding every digit bit
returns-in-0 c = clear_at _ 0 _ (omega arith) refl

pub returns-in-1 : goal.returns-in-1
unfolding every digit bit
returns-in-1 c = clear_at _ 1 _ (omega arith) refl

pub returns-in-2 : goal.returns-in-2
unfolding every digit bit
returns-in-2 c = clear_at _ 2 _ (omega arith) refl

pub returns-in_default : goal.returns-in_default
unfolding every digit bit
returns-in_default c = clear_at _ 3 _ (omega arith) refl
