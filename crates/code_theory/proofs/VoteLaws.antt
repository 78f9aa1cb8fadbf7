-- What the votes say of the symbols of a message, by the distance of its word. Assumes nothing.
use Prim.Native.Nat.{ℕ, zero, suc, ◌+◌, ◌*◌, ◌^◌, ◌≤◌, ◌<◌}
use mathlib.Core.Path.{◌≡◌, refl, ap, ap₂, sym, ◌∙◌}
use mathlib.Core.Logic.{◌≢◌, ◌⊎◌, inl, inr, ⊎_elim}
use native.Mathlib.Nat.{mod-eq_of_lt}
use native.Mathlib.Decide.{ℕ_discrete}
use native.Mathlib.Omega.{arith}
use Rattle.code_theory.specs.Sum.{sum}
use Rattle.code_theory.specs.Index.{bit, if_clear}
use Rattle.code_theory.specs.Modular.{sub_mod, same, differ}
use Rattle.code_theory.specs.Code.{linear, symbol_at}
use Rattle.code_theory.specs.Near.{distance}
use Rattle.code_theory.specs.Vote.{count, vote, votes, residue, residues, tally}
use Rattle.code_theory.proofs.SumLaws.{sum_ext, sum_le, sum_add, sum_const}
use Rattle.code_theory.proofs.IndexLaws.{pairing, half_clear, partner_lt}
use Rattle.code_theory.proofs.ModularLaws.{same_eq, same_ne, same_le, differ_eq, differ_ne, sub_mod_add, sub_mod_mod, add_sub_mod}
use Rattle.code_theory.proofs.CodeLaws.{linear_partner, linear_ext}

-- ANY VOTE: each open place gives the right value, or something is bad there
module _ (n : ℕ) (closed given bad : ℕ → ℕ) (right : ℕ) (cases : (i : ℕ) → closed i ≡ 0 → (1 ≤ bad i) ⊎ (given i ≡ right)) where
  own_place : (i : ℕ) → if_clear (closed i) 1 ≤ if_clear (closed i) (same (given i) right) + if_clear (closed i) (bad i)
  unfolding if_clear
  own_place i = go (closed i) refl
    where
      go : (b : ℕ) → closed i ≡ b → if_clear b 1 ≤ if_clear b (same (given i) right) + if_clear b (bad i)
      go zero z = ⊎_elim (λ d. omega arith) (λ e. omega (arith, same_eq _ _ e)) (cases i z)
      go (suc b) z = omega arith

  other_place : (v : ℕ) → v ≢ right → (i : ℕ) → if_clear (closed i) (same (given i) v) ≤ if_clear (closed i) (bad i)
  unfolding if_clear
  other_place v d i = go (closed i) refl
    where
      go : (b : ℕ) → closed i ≡ b → if_clear b (same (given i) v) ≤ if_clear b (bad i)
      go zero z = ⊎_elim (λ h. omega (arith, same_le (given i) v)) (λ e. omega (arith, same_ne (given i) v (λ x. d (sym x ∙ e)))) (cases i z)
      go (suc b) z = omega arith

  -- the votes for the right value are at least the open places less the bad ones
  pub count_own : sum n (λ i. if_clear (closed i) 1) ≤ count n closed given right + sum n (λ i. if_clear (closed i) (bad i))
  unfolding count
  count_own = omega (arith, sum_le n _ _ (λ i l. own_place i), sum_add n (λ i. if_clear (closed i) (same (given i) right)) (λ i. if_clear (closed i) (bad i)))

  -- those for another value at most the bad ones
  pub count_other : (v : ℕ) → v ≢ right → count n closed given v ≤ sum n (λ i. if_clear (closed i) (bad i))
  unfolding count
  count_other v d = sum_le n _ _ (λ i l. other_place v d i)

-- what is left of an undamaged place is the constant, and only of such a place
pub residue_right : (q m : ℕ) (s y : ℕ → ℕ) (i : ℕ) → 0 < q → s 0 < q → symbol_at q m s i ≡ y i → residue q m s y i ≡ s 0
unfolding residue symbol_at
residue_right q m s y i hq hs e = rw (← e, sub_mod_add, mod-eq_of_lt hs)

pub right_residue : (q m : ℕ) (s y : ℕ → ℕ) (i : ℕ) → 0 < q → y i < q → residue q m s y i ≡ s 0 → symbol_at q m s i ≡ y i
unfolding residue symbol_at
right_residue q m s y i hq hy e = rw (← e, add_sub_mod, mod-eq_of_lt hy)

-- an undamaged pair gives the coefficient
pub vote_right : (q m k : ℕ) (s : ℕ → ℕ) (i : ℕ) → 0 < q → k < m → s (suc k) < q → bit k i ≡ 0 → vote q k (symbol_at q m s) i ≡ s (suc k)
unfolding vote symbol_at
vote_right q m k s i hq hk hs z =
    let e : s 0 + (linear m (λ j. s (suc j)) i + s (suc k)) ≡ s (suc k) + (s 0 + linear m (λ j. s (suc j)) i) = omega arith in
    rw (linear_partner k m hk (λ j. s (suc j)) i z, e, sub_mod_mod, sub_mod_add, mod-eq_of_lt hs) refl

module _ (q m : ℕ) (s y : ℕ → ℕ) (hq : 0 < q) where
  -- 1 where the place is damaged
  bad : ℕ → ℕ
  bad i = differ (symbol_at q m s i) (y i)

  pair_cases : (k : ℕ) → k < m → s (suc k) < q → (i : ℕ) → bit k i ≡ 0 → (1 ≤ bad i + bad (i + 2 ^ k)) ⊎ (vote q k y i ≡ s (suc k))
  unfolding vote bad
  pair_cases k hk hs i z = go (ℕ_discrete (symbol_at q m s i) (y i)) (ℕ_discrete (symbol_at q m s (i + 2 ^ k)) (y (i + 2 ^ k)))
    where
      go : Dec (symbol_at q m s i ≡ y i) → Dec (symbol_at q m s (i + 2 ^ k) ≡ y (i + 2 ^ k))
          → (1 ≤ differ (symbol_at q m s i) (y i) + differ (symbol_at q m s (i + 2 ^ k)) (y (i + 2 ^ k))) ⊎ (sub_mod q (y (i + 2 ^ k)) (y i) ≡ s (suc k))
      go (no n) d = inl (omega (arith, differ_ne _ _ n))
      go (yes e) (no n) = inl (omega (arith, differ_ne _ _ n))
      go (yes e) (yes f) = inr (rw (← e, ← f) (vote_right q m k s i hq hk hs z))

  place_cases : s 0 < q → (i : ℕ) → (1 ≤ bad i) ⊎ (residue q m s y i ≡ s 0)
  unfolding bad
  place_cases hs i = go (ℕ_discrete (symbol_at q m s i) (y i))
    where
      go : Dec (symbol_at q m s i ≡ y i) → (1 ≤ differ (symbol_at q m s i) (y i)) ⊎ (residue q m s y i ≡ s 0)
      go (no n) = inl (omega (arith, differ_ne _ _ n))
      go (yes e) = inr (residue_right q m s y i hq hs e)

  -- VOTES FOR A SYMBOL of the message: at least half of the places less the distance
  pub tally_own : (k : ℕ) → k < suc m → s k < q → 2 ^ m ≤ 2 * (tally q m s y k (s k) + distance q m s y)
  unfolding tally residues votes distance bad if_clear
  tally_own zero h hs = omega (arith, sum_const (2 ^ m) 1, count_own (2 ^ m) (λ i. 0) (residue q m s y) bad (s 0) (λ i z. place_cases hs i))
  tally_own (suc k) h hs =
      let hk : k < m = omega arith in
      omega (arith, half_clear k m hk, pairing k m hk bad, count_own (2 ^ m) (bit k) (vote q k y) (λ i. bad i + bad (i + 2 ^ k)) (s (suc k)) (pair_cases k hk hs))

  -- VOTES FOR ANY OTHER VALUE: at most the distance
  pub tally_other : (k : ℕ) → k < suc m → s k < q → (v : ℕ) → v ≢ s k → tally q m s y k v ≤ distance q m s y
  unfolding tally residues votes distance bad if_clear
  tally_other zero h hs v d = count_other (2 ^ m) (λ i. 0) (residue q m s y) bad (s 0) (λ i z. place_cases hs i) v d
  tally_other (suc k) h hs v d =
      let hk : k < m = omega arith in
      omega (arith, pairing k m hk bad, count_other (2 ^ m) (bit k) (vote q k y) (λ i. bad i + bad (i + 2 ^ k)) (s (suc k)) (pair_cases k hk hs) v d)

  -- THE CONSTANT'S VOTES are the undamaged places
  pub residues_exact : s 0 < q → ((i : ℕ) → i < 2 ^ m → y i < q) → residues q m s y (s 0) + distance q m s y ≡ 2 ^ m
  unfolding residues count distance if_clear
  residues_exact hs hy =
      sym (sum_add (2 ^ m) (λ i. same (residue q m s y i) (s 0)) (λ i. differ (symbol_at q m s i) (y i)))
      ∙ sum_ext (2 ^ m) _ (λ i. 1) (λ i l. go i (hy i l) (ℕ_discrete (symbol_at q m s i) (y i)))
      ∙ sum_const (2 ^ m) 1 ∙ omega arith
    where
      go : (i : ℕ) → y i < q → Dec (symbol_at q m s i ≡ y i) → same (residue q m s y i) (s 0) + differ (symbol_at q m s i) (y i) ≡ 1
      go i l (yes e) = omega (arith, differ_eq _ _ e, same_eq _ _ (residue_right q m s y i hq hs e))
      go i l (no d) = omega (arith, differ_ne _ _ d, same_ne (residue q m s y i) (s 0) (λ e. d (right_residue q m s y i hq l e)))

pub count_ext : (n : ℕ) (closed given given' : ℕ → ℕ) → ((i : ℕ) → i < n → given i ≡ given' i) → (v : ℕ) → count n closed given v ≡ count n closed given' v
unfolding count
count_ext n closed given given' h v = sum_ext n _ _ (λ i l. ap (λ x. if_clear (closed i) (same x v)) (h i l))

-- the votes for a coefficient depend only on the 2 ^ m places of the word
pub votes_ext : (q m k : ℕ) (x y : ℕ → ℕ) → k < m → ((i : ℕ) → i < 2 ^ m → x i ≡ y i) → (v : ℕ) → votes q m k x v ≡ votes q m k y v
unfolding votes count vote if_clear
votes_ext q m k x y h e v = sum_ext (2 ^ m) _ _ (λ i l. place i l (bit k i) refl)
  where
    place : (i : ℕ) → i < 2 ^ m → (b : ℕ) → bit k i ≡ b → if_clear (bit k i) (same (sub_mod q (x (i + 2 ^ k)) (x i)) v) ≡ if_clear (bit k i) (same (sub_mod q (y (i + 2 ^ k)) (y i)) v)
    place i l zero z = ap (if_clear (bit k i)) (ap₂ (λ a b. same (sub_mod q a b) v) (e (i + 2 ^ k) (partner_lt k m i h l z)) (e i l))
    place i l (suc b) z = ap (λ c. if_clear c (same (sub_mod q (x (i + 2 ^ k)) (x i)) v)) z ∙ sym (ap (λ c. if_clear c (same (sub_mod q (y (i + 2 ^ k)) (y i)) v)) z)

-- the votes depend only on the m coefficients
pub tally_ext : (q m : ℕ) (s t y : ℕ → ℕ) → ((k : ℕ) → k < m → s (suc k) ≡ t (suc k)) → (k v : ℕ) → tally q m s y k v ≡ tally q m t y k v
unfolding tally residues residue
tally_ext q m s t y h zero v = count_ext (2 ^ m) (λ i. 0) _ _ (λ i l. ap (sub_mod q (y i)) (linear_ext m (λ k. s (suc k)) (λ k. t (suc k)) h i)) v
tally_ext q m s t y h (suc k) v = refl
