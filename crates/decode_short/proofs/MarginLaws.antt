-- The margin of a message that is near: the coefficients decide it, and their leads depend only on the errors. Assumes nothing.
use Prim.Native.Nat.{ℕ, zero, suc, ◌-◌, ◌^◌, ◌≤◌, ◌<◌}
use mathlib.Core.Path.{◌≡◌, refl, ap, sym, ◌∙◌}
use native.Mathlib.Omega.{arith}
use Rattle.code_theory.specs.Near.{Near}
use Rattle.code_theory.specs.Vote.{votes, tally}
use Rattle.code_theory.specs.Margin.{lead, least, margin}
use Rattle.code_theory.proofs.VoteLaws.{votes_ext}
use Rattle.code_theory.specs.Code.{Below}
use Rattle.code_theory.proofs.MarginLaws.{least_first, least_ext, lead_ext}
use Rattle.code_theory.proofs.ErrorLaws.{constant_lead, lead_le_half, lead_error}
use Rattle.code_theory.specs.Internal.{error}

-- THE MARGIN of a near message is the least lead of its coefficients, counted on the errors
pub margin_errors : (q m : ℕ) (s y place : ℕ → ℕ) → 0 < q → Below q m s → ((i : ℕ) → i < 2 ^ m → y i < q) → ((i : ℕ) → i < 2 ^ m → place i ≡ error q m s y i)
    → 1 ≤ m → Near q m s y → margin q m s y ≡ least (m - 1) (λ k. lead q 0 (votes q m k place))
unfolding margin tally
margin_errors q zero s y place hq hs hy e l near = absurd (omega arith)
margin_errors q (suc n) s y place hq hs hy e l near =
    let z : n ≡ suc n - 1 = omega arith in
    least_first n (λ k. lead q (s k) (tally q (suc n) s y k)) (omega (arith, constant_lead q (suc n) s y hq hs hy near, lead_le_half q (suc n) 0 (s 1) y (omega arith)))
    ∙ least_ext n _ _ (λ k l. lead_error q (suc n) k s y hq l (hs (suc k) (omega arith))
    ∙ lead_ext q 0 0 (votes q (suc n) k (error q (suc n) s y)) (votes q (suc n) k place) refl (λ v. votes_ext q (suc n) k (error q (suc n) s y) place l (λ i h. sym (e i h)) v))
    ∙ ap (λ x. least x (λ k. lead q 0 (votes q (suc n) k place))) z
