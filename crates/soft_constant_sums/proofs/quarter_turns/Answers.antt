-- `quarter_turns` meets its contract: the word of the coefficients modulo 4 is their turns.
use mathlib.Core.Path.{refl}
use native.Mathlib.Omega.{arith}
use Rattle.code_theory.specs.Question.{is_alphabet}
use Rattle.soft_constant_sums.proofs.TurnLaws.{turns_fit, turns_written}
use Rattle.soft_constant_sums.proofs.quarter_turns.Goals as goal

pub write-requires : goal.write-requires
unfolding is_alphabet
write-requires c =
    turns_fit _ _ _ _ refl (omega arith) c.requires.0 c.requires.1 c.requires.2 c.requires.3

pub returns : goal.returns
returns c =
    (c.write.ensures, turns_written _ _ c.args.turns.now _ c.requires.2 c.requires.3 c.write.ensures)
