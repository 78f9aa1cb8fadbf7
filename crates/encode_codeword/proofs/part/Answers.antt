-- `part` meets its contract: the test is the bit.
use Prim.Native.Nat.{ℕ, ◌*◌, ◌%◌}
use mathlib.Core.Path.{◌≡◌, ap, sym, ◌∙◌}
use mathlib.Core.Logic.{◌≢◌}
use native.Mathlib.Nat.{mul-zero, mul-one}
use native.Mathlib.Omega.{arith}
use Rattle.code_theory.specs.Index.{bit}
use Rattle.encode_codeword.proofs.part.Goals as goal

odd : (x : ℕ) → x % 2 ≢ 0 → x % 2 ≡ 1
odd x h = omega arith

pub returns-then-i-k-eq0 : goal.returns-then-i-k-eq0
unfolding bit
returns-then-i-k-eq0 c = (sym (ap (λ x. c.args.a * x) c.if-i-k-eq0.true ∙ mul-zero c.args.a), omega arith)

pub returns-else-i-k-eq0 : goal.returns-else-i-k-eq0
unfolding bit
returns-else-i-k-eq0 c = (sym (ap (λ x. c.args.a * x) (odd _ c.if-i-k-eq0.false) ∙ mul-one c.args.a), omega arith)
