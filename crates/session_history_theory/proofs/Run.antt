-- A list of calls as a chain of its slots, for any kind of session. Assumes nothing.
use Prim.Native.Nat.{ℕ, zero, suc, ◌+◌}
use mathlib.Core.Path.{◌≡◌, refl, ap, sym, subst, subst₂}
use mathlib.Core.Logic.{◌⊎◌, inl, inr}
use mathlib.Core.List.{List, [], ◌∷◌, ◌++◌}
use mathlib.Core.Option.{some, some-injective, none-ne-some}
use native.Mathlib.Nat.{add-zero, add-suc, suc-add}
use lib.ListN.{length, get_elem?}
use Rattle.session_history_theory.specs.Calls.{session_after, slots_of}

-- the session before slot j, where next is the session that a slot leaves
unfoldable pub before : {S A : Type 0} → (S → A → S) → S → List A → ℕ → S
before next s xs zero = s
before next s [] (suc j) = s
before next s (a ∷ xs) (suc j) = before next (next s a) xs j

-- a slot takes the session before it to the one after it
pub before_next : {S A : Type 0} (next : S → A → S) (s : S) (xs : List A) (i : ℕ) (a : A) → get_elem? xs i ≡ some a
    → before next s xs (suc i) ≡ next (before next s xs i) a
unfolding before
before_next next s [] i a e = absurd (none-ne-some a e)
before_next next s (x ∷ xs) zero a e = ap (next s) (some-injective x a e)
before_next next s (x ∷ xs) (suc i) a e = before_next next (next s x) xs i a e

module _ {S C A : Type 0} (call : S → C → S) (slot : S → C → List A) (next : S → A → S) (Made : S → A → Type 0) where
  -- a call leaves the session and makes no slot, or makes one slot and returns the session after it
  abbrev pub Step : S → C → Type 0
  Step s c = ((call s c ≡ s) × (slot s c ≡ [])) ⊎ ((a : A) × (call s c ≡ next s a) × (slot s c ≡ a ∷ []) × Made s a)

  -- the slots xs from the session s, each made by the session that the one before left, and the session at the end
  abbrev pub Chain : S → List A → S → Type 0
  Chain s [] end = s ≡ end
  Chain s (a ∷ xs) end = Made s a × Chain (next s a) xs end

  -- EVERY LIST OF CALLS is such a chain
  pub chain : ((s : S) (c : C) → Step s c) → (s : S) (cs : List C) → Chain s (slots_of call slot s cs) (session_after call s cs)
  unfolding slots_of session_after
  chain step s [] = refl
  chain step s (c ∷ cs) = go (step s c) (λ r. chain step r cs)
    where
      go : Step s c → ((r : S) → Chain r (slots_of call slot r cs) (session_after call r cs)) → Chain s (slot s c ++ slots_of call slot (call s c) cs) (session_after call (call s c) cs)
      go (inl (e, f)) ih = subst₂ (λ r xs. Chain s (xs ++ slots_of call slot r cs) (session_after call r cs)) (sym e) (sym f) (ih s)
      go (inr (a, e, f, h)) ih = subst₂ (λ r xs. Chain s (xs ++ slots_of call slot r cs) (session_after call r cs)) (sym e) (sym f) (h, ih (next s a))

  -- slot j is made by the session before it
  pub chain_made : (s : S) (xs : List A) (end : S) → Chain s xs end → (j : ℕ) (a : A) → get_elem? xs j ≡ some a → Made (before next s xs j) a
  unfolding before
  chain_made s [] end h j a e = absurd (none-ne-some a e)
  chain_made s (x ∷ xs) end h zero a e = subst (Made s) (some-injective x a e) h.0
  chain_made s (x ∷ xs) end h (suc j) a e = chain_made (next s x) xs end h.1 j a e

  -- what every slot keeps holds before slot j and at the end, where the slots are counted from n
  module _ (Inv : ℕ → S → Type 0) (keep : (n : ℕ) (s : S) (a : A) → Made s a → Inv n s → Inv (suc n) (next s a)) where
    pub chain_before : (n : ℕ) (s : S) (xs : List A) (end : S) → Chain s xs end → Inv n s → (j : ℕ) (a : A) → get_elem? xs j ≡ some a → Inv (n + j) (before next s xs j)
    unfolding before
    chain_before n s [] end h i j a e = absurd (none-ne-some a e)
    chain_before n s (x ∷ xs) end h i zero a e = rw add-zero i
    chain_before n s (x ∷ xs) end h i (suc j) a e = rw (add-suc, ← suc-add) (chain_before (suc n) (next s x) xs end h.1 (keep n s x h.0 i) j a e)

    pub chain_end : (n : ℕ) (s : S) (xs : List A) (end : S) → Chain s xs end → Inv n s → Inv (n + length xs) end
    chain_end n s [] end h i = rw add-zero (subst (Inv n) h i)
    chain_end n s (x ∷ xs) end h i = rw (add-suc, ← suc-add) (chain_end (suc n) (next s x) xs end h.1 (keep n s x h.0 i))
