-- `sixteen` meets its contract.
use Prim.Native.Nat.{ℕ, ◌*◌, ◌<◌}
use native.Mathlib.Omega.{arith}
use Rattle.swar_theory.specs.Internal.{digit}
use Rattle.swar_lanes.proofs.LoadLaws.{low_bytes, low_le, sixteen_held}
use Rattle.swar_lanes.proofs.sixteen.Goals as goal

-- the bytes of both numbers fit a lane
first : (c : goal.After-eight-2) (l : ℕ) → l < 8 → digit 8 c.eight.result l < 16
first c = low_bytes c.args.word.now _ _ c.eight.ensures c.requires.2 (λ l h. omega arith)

second : (c : goal.After-eight-2) (l : ℕ) → l < 8 → digit 8 c.eight-2.result l < 16
second c = low_bytes c.args.word.now _ _ c.eight-2.ensures c.requires.2 (λ l h. omega arith)

pub overflow_add-result : goal.overflow_add-result
overflow_add-result c = omega (arith, low_le c.eight.result (omega arith) (first c), low_le c.eight-2.result (omega arith) (second c))

pub returns : goal.returns
returns c =
    sixteen_held c.eight.result c.eight-2.result (omega arith) (omega arith) (first c) (second c) c.args.word.now (16 * c.args.j) c.eight.ensures c.eight-2.ensures
