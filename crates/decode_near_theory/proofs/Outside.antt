-- A place of a received word with a symbol outside the alphabet is a place that differs. Assumes nothing.
use Prim.Native.Nat.{ℕ, ◌≤◌, ◌<◌}
use mathlib.Core.Path.{◌≡◌}
use mathlib.Core.List.{List}
use native.Mathlib.Omega.{arith}
use Rattle.code_theory.specs.Sum.{at}
use Rattle.code_theory.specs.Modular.{differ}
use Rattle.code_theory.specs.Code.{symbol_at}
use Rattle.code_theory.proofs.ModularLaws.{differ_ne}
use Rattle.code_theory.proofs.CodeLaws.{symbol_at_lt}

-- where symbol i of the word w is outside the alphabet, it differs from symbol i of the word of t, whatever the message t is
pub outside_differs : (q m : ℕ) (t w : List ℕ) (i : ℕ) → 0 < q → q ≤ at w i → differ (symbol_at q m (at t) i) (at w i) ≡ 1
outside_differs q m t w i positive outside = differ_ne _ _ (λ e. absurd (omega (arith, e, outside, symbol_at_lt q m (at t) i positive)))
