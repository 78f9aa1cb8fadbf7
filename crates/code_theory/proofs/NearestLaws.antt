-- The search over all messages finds the near message exactly where there is one. Assumes nothing.
use Prim.Native.Nat.{ℕ, zero, suc, suc-le-suc, ◌<◌}
use mathlib.Core.Path.{◌≡◌, refl, ap, sym, subst, ◌∙◌}
use mathlib.Core.Logic.{◌⊎◌, inl, inr, ⊎_elim}
use mathlib.Core.Bool.{Bool, true, false, true≢false}
use mathlib.Core.List.Memᴰ
use mathlib.Core.List.{List, [], ◌∷◌, ◌++◌, map, Memᴰ}
use mathlib.Core.Option.{Option, none, some, none-ne-some}
use native.Mathlib.Nat.{not-suc-le-zero, suc_inj, eq-or-lt_of_le, le_of_suc-le-suc}
use native.Mathlib.Omega.{arith}
use lib.Seq.{ext_get_or}
use borrow.Author.Tests.{ltb-true, lt-ltb}
use Rattle.code_theory.specs.Sum.{tabulate, at}
use Rattle.code_theory.specs.Code.{Symbols, Below}
use Rattle.code_theory.specs.Near.{distance, Near}
use Rattle.code_theory.specs.Internal.{Winners}
use Rattle.code_theory.specs.Nearest.{prefixed, messages, first_or, find, is_found, or_empty, is_near, nearest, is_readable, near_message, near_distance}
use Rattle.code_theory.proofs.SumLaws.{tabulate_length, tabulate_at}
use Rattle.code_theory.proofs.CodeLaws.{distance_ext}
use Rattle.code_theory.proofs.WinnerLaws.{near_wins, winners_near}

-- what is found passes the test and stands in the list
pub find_some : (passes : List ℕ → Bool) (ts : List (List ℕ)) (t : List ℕ) → find passes ts ≡ some t → (passes t ≡ true) × Memᴰ t ts
unfolding find first_or
find_some passes [] t e = absurd (none-ne-some t e)
find_some passes (x ∷ ts) t e = go (passes x) refl (find_some passes ts t) e
  where
    go : (b : Bool) → passes x ≡ b → (find passes ts ≡ some t → (passes t ≡ true) × Memᴰ t ts)
        → first_or b x (find passes ts) ≡ some t → (passes t ≡ true) × Memᴰ t (x ∷ ts)
    go true p ih e = let f : t ≡ x = cc in (ap passes f ∙ p, Memᴰ.head f)
    go false p ih e = let (a, b) = ih e in (a, Memᴰ.tail b)

-- where nothing is found, nothing in the list passes
pub find_none : (passes : List ℕ → Bool) (ts : List (List ℕ)) → find passes ts ≡ none → (t : List ℕ) → Memᴰ t ts → passes t ≡ false
unfolding find first_or
find_none passes [] e t i = absurd (Memᴰ.not-nil i)
find_none passes (x ∷ ts) e t i = go (passes x) refl (λ f. find_none passes ts f t) e (Memᴰ.cases_cons i)
  where
    go : (b : Bool) → passes x ≡ b → (find passes ts ≡ none → Memᴰ t ts → passes t ≡ false)
        → first_or b x (find passes ts) ≡ none → (t ≡ x) ⊎ Memᴰ t ts → passes t ≡ false
    go true p ih e i = absurd (none-ne-some x (sym e))
    go false p ih e (inl f) = ap passes f ∙ p
    go false p ih e (inr i) = ih e i

map_mem : (n : ℕ) (ts : List (List ℕ)) (t : List ℕ) → Memᴰ t (map (λ r. n ∷ r) ts) → (r : List ℕ) × (t ≡ n ∷ r) × Memᴰ r ts
map_mem n [] t i = absurd (Memᴰ.not-nil i)
map_mem n (x ∷ ts) t i = ⊎_elim (λ e. (x, e, Memᴰ.head refl)) (λ j. let (r, e, k) = map_mem n ts t j in (r, e, Memᴰ.tail k)) (Memᴰ.cases_cons i)

mem_map : (n : ℕ) (ts : List (List ℕ)) (r : List ℕ) → Memᴰ r ts → Memᴰ (n ∷ r) (map (λ r. n ∷ r) ts)
mem_map n [] r i = absurd (Memᴰ.not-nil i)
mem_map n (x ∷ ts) r i = ⊎_elim (λ e. Memᴰ.head (ap (λ z. n ∷ z) e)) (λ j. Memᴰ.tail (mem_map n ts r j)) (Memᴰ.cases_cons i)

prefixed_mem : (n : ℕ) (ts : List (List ℕ)) (t : List ℕ) → Memᴰ t (prefixed n ts) → (s : ℕ) × (s < n) × (r : List ℕ) × (t ≡ s ∷ r) × Memᴰ r ts
unfolding prefixed
prefixed_mem zero ts t i = absurd (Memᴰ.not-nil i)
prefixed_mem (suc n) ts t i =
    ⊎_elim
    (λ j. let (s, l, r, e, k) = prefixed_mem n ts t j in (s, omega arith, r, e, k))
    (λ j. let (r, e, k) = map_mem n ts t j in (n, omega arith, r, e, k))
    (Memᴰ.append_cases (prefixed n ts) i)

mem_prefixed : (n : ℕ) (ts : List (List ℕ)) (s : ℕ) (r : List ℕ) → s < n → Memᴰ r ts → Memᴰ (s ∷ r) (prefixed n ts)
unfolding prefixed
mem_prefixed zero ts s r l i = absurd (not-suc-le-zero l)
mem_prefixed (suc n) ts s r l i = go (λ h. mem_prefixed n ts s r h i) (eq-or-lt_of_le (le_of_suc-le-suc l))
  where
    go : (s < n → Memᴰ (s ∷ r) (prefixed n ts)) → (s ≡ n) ⊎ (s < n) → Memᴰ (s ∷ r) (prefixed n ts ++ map (λ t. n ∷ t) ts)
    go ih (inl e) = rw e (Memᴰ.append_right (prefixed n ts) (mem_map n ts r i))
    go ih (inr h) = Memᴰ.append_left (map (λ t. n ∷ t) ts) (ih h)

-- the list of all messages holds lists of l symbols below q, and each of them
pub messages_sound : (q l : ℕ) (t : List ℕ) → Memᴰ t (messages q l) → Symbols q l t
unfolding messages
messages_sound q zero t i = rw (Memᴰ.eq_of_singleton i) (record { size = refl; below = λ j h. absurd (not-suc-le-zero h) })
messages_sound q (suc l) t i =
    let (s, h, r, e, j) = prefixed_mem q (messages q l) t i in
    let y = messages_sound q l r j in
    rw e (record { size = ap suc y.size; below = more s r h y.below })
  where
    more : (s : ℕ) (r : List ℕ) → s < q → ((i : ℕ) → i < l → at r i < q) → (i : ℕ) → i < suc l → at (s ∷ r) i < q
    more s r h b zero k = h
    more s r h b (suc i) k = b i (le_of_suc-le-suc k)

pub messages_complete : (q l : ℕ) (t : List ℕ) → Symbols q l t → Memᴰ t (messages q l)
unfolding messages
messages_complete q zero [] y = Memᴰ.head refl
messages_complete q zero (x ∷ t) y = absurd (omega (arith, y.size))
messages_complete q (suc l) [] y = absurd (omega (arith, y.size))
messages_complete q (suc l) (s ∷ t) y =
    mem_prefixed q (messages q l) s t (y.below zero (omega arith))
    (messages_complete q l t (record { size = suc_inj y.size; below = λ i h. y.below (suc i) (suc-le-suc h) }))

-- DECIDED: a search over all messages in which nothing but t can pass gives t where it passes, else none
pub decided : (q l : ℕ) (passes : List ℕ → Bool) (t : List ℕ) → Symbols q l t → ((s : List ℕ) → Symbols q l s → passes s ≡ true → s ≡ t)
    → find passes (messages q l) ≡ first_or (passes t) t none
unfolding first_or
decided q l passes t y only = go (find passes (messages q l)) refl (passes t) refl
  where
    go : (o : Option (List ℕ)) → find passes (messages q l) ≡ o → (b : Bool) → passes t ≡ b → o ≡ first_or b t none
    go none e true p = absurd (true≢false (sym p ∙ find_none passes (messages q l) e t (messages_complete q l t y)))
    go none e false p = refl
    go (some s) e b p =
        let (a, i) = find_some passes (messages q l) s e in
        let x = only s (messages_sound q l s i) a in
        ap some x ∙ ap (λ c. first_or c t none) (sym (ap passes (sym x) ∙ a) ∙ p)

pub is_near_true : (q m : ℕ) (y t : List ℕ) → is_near q m y t ≡ true → Near q m (at t) (at y)
unfolding is_near
is_near_true q m y t e = ltb-true _ _ e

pub near_true : (q m : ℕ) (y t : List ℕ) → Near q m (at t) (at y) → is_near q m y t ≡ true
unfolding is_near
near_true q m y t n = lt-ltb _ _ n

-- ONE CANDIDATE: where no message but t can be near, the word reads as t if t is near, else as nothing
pub only_decide : (q m : ℕ) (y t : List ℕ) → Symbols q (suc m) t
    → ((s : List ℕ) → Symbols q (suc m) s → Near q m (at s) (at y) → (k : ℕ) → k < suc m → at s k ≡ at t k)
    → nearest q m y ≡ first_or (is_near q m y t) t none
unfolding nearest
only_decide q m y t h only =
    decided q (suc m) (is_near q m y) t h (λ s k e.
    ext_get_or 0 s t (omega (arith, k.size, h.size)) (λ i l. only s k (is_near_true q m y s e) i (omega (arith, k.size))))

-- WINNERS DECIDE: where no value has more votes than the symbol of t, t is the one candidate
winners_decide : (q m : ℕ) → 0 < q → (y t : List ℕ) → Symbols q (suc m) t → Winners q m (at t) (at y) → nearest q m y ≡ first_or (is_near q m y t) t none
winners_decide q m hq y t h w = only_decide q m y t h (λ s k n. winners_near q m hq (at s) k.below (at y) (at t) h.below n w)

-- FOUND EXACTLY IF NEAR
pub near_found : (q m : ℕ) → 0 < q → (y t : List ℕ) → Symbols q (suc m) t → Near q m (at t) (at y) → nearest q m y ≡ some t
unfolding first_or
near_found q m hq y t h n =
    winners_decide q m hq y t h (near_wins q m hq (at t) h.below (at y) n) ∙ ap (λ b. first_or b t none) (near_true q m y t n)

pub found_near : (q m : ℕ) (y t : List ℕ) → nearest q m y ≡ some t → Symbols q (suc m) t × Near q m (at t) (at y)
unfolding nearest
found_near q m y t e =
    let (a, i) = find_some (is_near q m y) (messages q (suc m)) t e in
    (messages_sound q (suc m) t i, is_near_true q m y t a)

pub none_near : (q m : ℕ) (y : List ℕ) → nearest q m y ≡ none → (t : List ℕ) → Symbols q (suc m) t → Near q m (at t) (at y) → ⊥
unfolding nearest
none_near q m y e t h n =
    let p : is_near q m y t ≡ false = find_none (is_near q m y) (messages q (suc m)) e t (messages_complete q (suc m) t h) in
    true≢false (sym (near_true q m y t n) ∙ p)

-- what the reading gives where a message is found, and where none is
pub readable : (q m : ℕ) (y t : List ℕ) → nearest q m y ≡ some t → (is_readable q m y ≡ true) × (near_message q m y ≡ t)
unfolding is_readable near_message is_found or_empty
readable q m y t e = (rw e, rw e)

pub unreadable : (q m : ℕ) (y : List ℕ) → nearest q m y ≡ none → is_readable q m y ≡ false
unfolding is_readable is_found
unreadable q m y e = rw e

-- a readable word has a near message
pub readable_found : (q m : ℕ) (y : List ℕ) → is_readable q m y ≡ true → nearest q m y ≡ some (near_message q m y)
readable_found q m y e = go (nearest q m y) refl
  where
    go : (o : Option (List ℕ)) → nearest q m y ≡ o → nearest q m y ≡ some (near_message q m y)
    go none f = absurd (true≢false (sym e ∙ unreadable q m y f))
    go (some t) f = f ∙ ap some (sym (readable q m y t f).1)

-- what is read is a message
pub read_symbols : (q m : ℕ) (y : List ℕ) → is_readable q m y ≡ true → Symbols q (suc m) (near_message q m y)
read_symbols q m y e = (found_near q m y (near_message q m y) (readable_found q m y e)).0

-- a near message that is given by its symbols is what the word reads as
pub near_reads : (q m : ℕ) → 0 < q → (y : List ℕ) (s : ℕ → ℕ) → Below q m s → Near q m s (at y)
    → (is_readable q m y ≡ true) × (near_distance q m y ≡ distance q m s (at y)) × ((k : ℕ) → k < suc m → at (near_message q m y) k ≡ s k)
unfolding near_distance
near_reads q m hq y s h n =
    let t : List ℕ = tabulate (suc m) s in
    let e : (k : ℕ) → k < suc m → at t k ≡ s k = tabulate_at (suc m) s in
    let d : distance q m (at t) (at y) ≡ distance q m s (at y) = distance_ext q m (at t) s (at y) (at y) e (λ i l. refl) in
    let x : Symbols q (suc m) t = record { size = tabulate_length (suc m) s; below = λ k l. subst (λ z. z < q) (sym (e k l)) (h k l) } in
    let r = readable q m y t (near_found q m hq y t x (omega (arith, d, n))) in
    (r.0, ap (λ z. distance q m (at z) (at y)) r.1 ∙ d, λ k l. ap (λ z. at z k) r.1 ∙ e k l)

-- THE READER'S LAW: the one candidate t is what the word reads as if it is near, and else the word is doubtful
pub record Reads (q m : ℕ) (y t : List ℕ) : Type 0 where
  pub near : Near q m (at t) (at y) → (is_readable q m y ≡ true) × (near_message q m y ≡ t)
  pub far : (Near q m (at t) (at y) → ⊥) → is_readable q m y ≡ false

pub only_read : (q m : ℕ) (y t : List ℕ) → Symbols q (suc m) t
    → ((s : List ℕ) → Symbols q (suc m) s → Near q m (at s) (at y) → (k : ℕ) → k < suc m → at s k ≡ at t k) → Reads q m y t
unfolding first_or
only_read q m y t h only = record {
  near = λ n. readable q m y t (only_decide q m y t h only ∙ ap (λ b. first_or b t none) (near_true q m y t n));
  far = λ d. unreadable q m y (only_decide q m y t h only ∙ ap (λ b. first_or b t none) (far d));
}
  where
    far : (Near q m (at t) (at y) → ⊥) → is_near q m y t ≡ false
    far d = go (is_near q m y t) refl
      where
        go : (b : Bool) → is_near q m y t ≡ b → b ≡ false
        go true e = absurd (d (is_near_true q m y t e))
        go false e = refl
