-- A near message wins each of its votes, and whatever wins them all is the only message that can be near. Assumes nothing.
use Prim.Native.Nat.{ℕ, zero, suc, ◌+◌, ◌*◌, ◌^◌, ◌≤◌, ◌<◌}
use mathlib.Core.Path.{◌≡◌, refl, ap, sym}
use mathlib.Core.Logic.{◌≢◌}
use native.Mathlib.Nat.{le_of_suc-le-suc}
use native.Mathlib.Decide.{ℕ_discrete}
use native.Mathlib.Omega.{arith}
use Rattle.code_theory.specs.Near.{distance, Near}
use Rattle.code_theory.specs.Vote.{tally}
use Rattle.code_theory.specs.Internal.{Winners}
use Rattle.code_theory.specs.Code.{Below}
use Rattle.code_theory.proofs.VoteLaws.{tally_own, tally_other, tally_ext}

module _ (q m : ℕ) (hq : 0 < q) (s : ℕ → ℕ) (hs : Below q m s) (y : ℕ → ℕ) where
  -- STRICT WINNERS: every symbol of a near message has more votes than any other value
  pub near_strict : Near q m s y → (k : ℕ) → k < suc m → (v : ℕ) → v ≢ s k → tally q m s y k v < tally q m s y k (s k)
  near_strict n k l v d = omega (arith, tally_own q m s y hq k l (hs k l), tally_other q m s y hq k l (hs k l) v d)

  pub near_wins : Near q m s y → Winners q m s y
  near_wins n k l v b = go (ℕ_discrete v (s k))
    where
      go : Dec (v ≡ s k) → tally q m s y k v ≤ tally q m s y k (s k)
      go (yes e) = omega (arith, ap (tally q m s y k) e)
      go (no d) = omega (arith, near_strict n k l v d)

  module _ (t : ℕ → ℕ) (ht : Below q m t) where
    -- two messages that differ in a coefficient have half of the places wrong between them
    pub apart : (k : ℕ) → k < m → s (suc k) ≢ t (suc k) → 2 ^ m ≤ 2 * (distance q m s y + distance q m t y)
    unfolding tally
    apart k h d =
        let l : suc k < suc m = omega arith in
        omega (arith, tally_own q m s y hq (suc k) l (hs (suc k) l), tally_other q m t y hq (suc k) l (ht (suc k) l) (s (suc k)) d)

    module _ (n : Near q m s y) (w : Winners q m t y) where
      -- a symbol of the near message where the votes are the same ones
      agree : (k : ℕ) → k < suc m → ((v : ℕ) → tally q m s y k v ≡ tally q m t y k v) → s k ≡ t k
      agree k l e = go (ℕ_discrete (t k) (s k))
        where
          go : Dec (t k ≡ s k) → s k ≡ t k
          go (yes x) = sym x
          go (no d) = absurd (omega (arith, w k l (s k) (hs k l), near_strict n k l (t k) d, e (s k), e (t k)))

      agree_coefficient : (k : ℕ) → k < m → s (suc k) ≡ t (suc k)
      unfolding tally
      agree_coefficient k h = agree (suc k) (omega arith) (λ v. refl)

      -- WINNERS: a near message is the one whose symbols win
      pub winners_near : (k : ℕ) → k < suc m → s k ≡ t k
      winners_near zero l = agree zero l (tally_ext q m s t y agree_coefficient zero)
      winners_near (suc k) l = agree_coefficient k (le_of_suc-le-suc l)

-- AT MOST ONE MESSAGE IS NEAR
pub near_unique : (q m : ℕ) → 0 < q → (s : ℕ → ℕ) → Below q m s → (t : ℕ → ℕ) → Below q m t → (y : ℕ → ℕ)
    → Near q m s y → Near q m t y → (k : ℕ) → k < suc m → s k ≡ t k
near_unique q m hq s hs t ht y ns nt = winners_near q m hq s hs y t ht ns (near_wins q m hq t ht y nt)
