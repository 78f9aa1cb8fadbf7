-- The j-th index whose bit k is 0, as the code works it out. Assumes nothing.
use Prim.Native.Nat.{ℕ, ◌+◌, ◌*◌, ◌-◌, ◌/◌, ◌%◌, ◌^◌, ◌≤◌, ◌<◌}
use mathlib.Core.Path.{◌≡◌, ap, ◌∙◌}
use native.Mathlib.Omega.{arith}
use native.Mathlib.Nat.{mod-add-div, mul_comm, one-mul}
use lib.Bits.{bit_and, and_mask}
use lib.Dec.{lit<}
use lib.Pow.{pow_pos, shl_exact}
use Rattle.code_theory.specs.Internal.{nth_clear}
use Rattle.code_theory.proofs.ModularLaws.{sub_mod_code}
use Rattle.code_theory.proofs.QuestionLaws.{mask_mod}

-- the bits below k, as the code's mask picks them
one_up : (k : ℕ) → k < 8 → (1 * 2 ^ k) % 18446744073709551616 ≡ 2 ^ k
one_up k h = shl_exact {a = 1} 1 k 64 (lit< tt) (omega arith) ∙ one-mul (2 ^ k)

pub low_mask : (k : ℕ) → k < 8 → 1 ≤ (1 * 2 ^ k) % 18446744073709551616
low_mask k h = omega (arith, one_up k h, pow_pos k)

pub low_bits : (k j : ℕ) → k < 8 → bit_and j ((1 * 2 ^ k) % 18446744073709551616 - 1) ≡ j % 2 ^ k
low_bits k j h = ap (λ n. bit_and j (n - 1)) (one_up k h) ∙ and_mask j k

-- the place as code works it out
pub nth_code : (k j low : ℕ) → low ≡ j % 2 ^ k → (low ≤ j) × (j + (j - low) ≡ nth_clear k j)
unfolding nth_clear
nth_code k j low e = omega (arith, e, mod-add-div j (2 ^ k), mul_comm (2 ^ k) (j / 2 ^ k))

-- a mask with q - 1 is the remainder, and the code of a difference meets its definition
pub ruleset masks = (mask_mod, sub_mod_code)
