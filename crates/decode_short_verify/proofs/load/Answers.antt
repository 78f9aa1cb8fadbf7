-- `load` meets its contract: up to eight places stand in the even lanes, and past the end of the word there are zeros.
use mathlib.Core.Path.{ap, ◌∙◌}
use Prim.Native.Nat.{◌^◌}
use native.Mathlib.Omega.{arith}
use Rattle.decode_short_verify.proofs.PlaceLaws.{held_four, held_eight}
use Rattle.decode_short_verify.proofs.VerifyLaws.{none_second}
use Rattle.decode_short_verify.proofs.load.Goals as goal

pub returns-in-2 : goal.returns-in-2
returns-in-2 g c =
    let size = c.requires.2 ∙ ap (λ m. 2 ^ m) c.in-2.is in
    (held_four c.args.word.now c.four.result size c.requires.3 c.four.ensures, none_second c.args.word.now (omega (arith, size)))

pub returns-in-3 : goal.returns-in-3
returns-in-3 g c =
    let size = c.requires.2 ∙ ap (λ m. 2 ^ m) c.in-3.is in
    (held_eight c.args.word.now c.eight.result size c.requires.3 c.eight.ensures, none_second c.args.word.now (omega (arith, size)))

pub returns-in-4 : goal.returns-in-4
returns-in-4 g c =
    let size = c.requires.2 ∙ ap (λ m. 2 ^ m) c.in-4.is in
    (c.sixteen.ensures, none_second c.args.word.now (omega (arith, size)))
