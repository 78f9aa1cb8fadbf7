-- The winner over the values, one after the other. Assumes nothing.
use Prim.Native.Nat.{ℕ, suc, ◌+◌, ◌*◌, ◌-◌, ◌/◌, ◌%◌, ◌^◌, ◌≤◌, ◌<◌, max}
use mathlib.Core.Path.{◌≡◌, refl, ap, ap₂, sym, ◌∙◌}
use mathlib.Core.Logic.{◌≢◌, ◌⊎◌, inl, inr}
use native.Mathlib.Decide.{dec_lt}
use native.Mathlib.Numerals.{add-one}
use native.Mathlib.Omega.{arith}
use native.Mathlib.Nat.{zero-div, eq-or-lt_of_le, le_of_suc-le-suc}
use Rattle.code_theory.specs.Index.{if_clear}
use Rattle.code_theory.specs.Margin.{most_other, lead}
use Rattle.code_theory.proofs.ModularLaws.{same_eq, same_ne}
use Rattle.code_theory.proofs.MarginLaws.{most_other_le, le_most_other, most_other_ext}
use Rattle.swar_theory.specs.Internal.{digit}
use Rattle.decode_long_tally.specs.Internal.{Counts}
use Rattle.decode_long_winner.specs.Internal.{Leads, Updates, together}

most_other_lem : (n s : ℕ) (f : ℕ → ℕ) → n ≢ s → most_other (suc n) s f ≡ max (most_other n s f) (f n)
unfolding most_other if_clear
most_other_lem n s f d = rw (same_ne n s d)

most_self : (n : ℕ) (f : ℕ → ℕ) → most_other (suc n) n f ≡ most_other n n f
unfolding most_other if_clear
most_self n f = rw (same_eq n n refl) (omega arith)

-- the first value leads alone
pub leads_first : (f : ℕ → ℕ) (n : ℕ) → n ≡ f 0 → Leads 1 f 0 n 0
unfolding most_other if_clear
leads_first f n e = record { inside = omega arith; own = e; top = λ v l. omega (arith, e, ap f (zero_of v l)); other = rw (same_eq 0 0 refl) (omega arith) }
  where
    zero_of : (v : ℕ) → v < 1 → v ≡ 0
    zero_of v l = omega arith

pub next_le : (q : ℕ) (f : ℕ → ℕ) (s n o : ℕ) → Leads q f s n o → o ≤ n
next_le q f s n o w = omega (arith, w.other, most_other_le q s f n (λ u l d. w.top u l))

-- one value more
pub leads_next : (i : ℕ) (f : ℕ → ℕ) (s n o x s' n' o' : ℕ) → Leads i f s n o → x ≡ f i → Updates s n o i x s' n' o' → Leads (i + 1) f s' n' o'
leads_next i f s n o x s' n' o' w e t = rw add-one (go (dec_lt n x))
  where
    each : (v : ℕ) → (v ≡ i) ⊎ (v < i) → f v ≤ n'
    each v (inl z) = omega (arith, t.most, e, ap f z)
    each v (inr m) = omega (arith, t.most, w.top v m)

    go : Dec (n < x) → Leads (suc i) f s' n' o'
    go (yes l) =
        let a : s' ≡ i = t.wins l in
        let h : most_other i i f ≤ n = most_other_le i i f n (λ u m d. w.top u m) in
        let g : o' ≡ most_other i i f = omega (arith, t.other, next_le i f s n o w, h, w.own, le_most_other i i f s w.inside (λ z. absurd (omega (arith, w.inside, z)))) in
        record {
          inside = omega (arith, a);
          own = omega (arith, t.most, e, ap f a);
          top = λ v m. each v (eq-or-lt_of_le (le_of_suc-le-suc m));
          other = g ∙ sym (most_self i f) ∙ ap (λ z. most_other (suc i) z f) (sym a);
        }
    go (no d) =
        let a : s' ≡ s = t.stays (omega arith) in
        let g : o' ≡ max (most_other i s f) (f i) = omega (arith, t.other, w.other, e) in
        record {
          inside = omega (arith, w.inside, a);
          own = omega (arith, t.most, w.own, ap f a);
          top = λ v m. each v (eq-or-lt_of_le (le_of_suc-le-suc m));
          other = g ∙ sym (most_other_lem i s f (λ z. absurd (omega (arith, w.inside, z)))) ∙ ap (λ z. most_other (suc i) z f) (sym a);
        }

pub leads_all : (q i : ℕ) (f : ℕ → ℕ) (s n o : ℕ) → i ≡ q → Leads i f s n o → Leads q f s n o
leads_all q i f s n o e w = rw e at w

pub leads_ext : (q : ℕ) (f g : ℕ → ℕ) (s n o : ℕ) → ((v : ℕ) → v < q → f v ≡ g v) → Leads q f s n o → Leads q g s n o
leads_ext q f g s n o h w = record {
  inside = w.inside;
  own = w.own ∙ h s w.inside;
  top = λ v l. omega (arith, h v l, w.top v l);
  other = w.other ∙ most_other_ext q s f g h;
}

pub leads_lead : (q : ℕ) (f : ℕ → ℕ) (s n o : ℕ) → Leads q f s n o → n - o ≡ lead q s f
unfolding lead
leads_lead q f s n o w = ap₂ (λ x y. x - y) w.own w.other

-- the counters of two tallies
pub together_is : (t u v a b : ℕ) → a ≡ digit 8 t v → b ≡ digit 8 u v → a + b ≡ together t u v
unfolding together
together_is t u v a b e f = ap₂ (λ x y. x + y) e f

-- a single tally
pub alone : (q t : ℕ) (f : ℕ → ℕ) (s n o : ℕ) → Counts q t f → Leads q (together t 0) s n o → Leads q f s n o
unfolding together digit
alone q t f s n o h = leads_ext q (together t 0) f s n o (λ v l.
    let z : 0 / 2 ^ (8 * v) % 256 ≡ 0 = ap (λ x. x % 256) (zero-div (2 ^ (8 * v))) in
    omega (arith, z, h v l))
