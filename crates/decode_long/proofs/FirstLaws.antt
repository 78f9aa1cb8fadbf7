-- The winners of the coefficients, one after the other, and with the constant all of them. Assumes nothing.
use Prim.Native.Nat.{ℕ, zero, suc, ◌+◌, ◌-◌, ◌^◌, ◌≤◌, ◌<◌, min}
use mathlib.Core.Path.{◌≡◌, refl, ap, ap₂, sym, ◌∙◌}
use mathlib.Core.Logic.{◌⊎◌, inl, inr}
use mathlib.Core.List.{List}
use native.Mathlib.Numerals.{add-one}
use native.Mathlib.Omega.{arith}
use native.Mathlib.Nat.{not-suc-le-zero, eq-or-lt_of_le, le_of_suc-le-suc}
use borrow.Author.Count.{below_none}
use lib.ListN.{length, set, length-set}
use lib.Seq.{get_or-set_same, get_or-set_other}
use lib.Pow.{pow_mono}
use Rattle.code_theory.specs.Sum.{at}
use Rattle.code_theory.specs.Near.{distance}
use Rattle.code_theory.specs.Vote.{votes, residues, tally}
use Rattle.code_theory.specs.Internal.{Winners, WellFormed}
use Rattle.code_theory.specs.Margin.{lead, least, margin}
use Rattle.code_theory.specs.Code.{Below}
use Rattle.code_theory.proofs.VoteLaws.{residues_exact, tally_ext}
use Rattle.encode_codeword.specs.Internal.{Fits}
use Rattle.decode_long.specs.Internal.{least_of, lead_of, FirstWinners, Winning}
use Rattle.decode_long_winner.specs.Internal.{Leads}
use Rattle.code_theory.proofs.WordLaws.{bounds}
use Rattle.decode_long_winner.proofs.WinnerLaws.{leads_ext, leads_lead}

least_of_ext : (n : ℕ) (f g : ℕ → ℕ) (b : ℕ) → ((k : ℕ) → k < n → f k ≡ g k) → least_of n f b ≡ least_of n g b
unfolding least_of
least_of_ext zero f g b h = refl
least_of_ext (suc n) f g b h = ap₂ min (least_of_ext n f g b (λ k l. h k (omega arith))) (h n (omega arith))

least_of_least : (n : ℕ) (f : ℕ → ℕ) (b : ℕ) → f 0 ≤ b → min (least_of n (λ k. f (suc k)) b) (f 0) ≡ least n f
unfolding least_of least
least_of_least zero f b h = omega arith
least_of_least (suc n) f b h = omega (arith, least_of_least n f b h)

pub first_none : (q m : ℕ) (w s : List ℕ) → length s ≡ 9 → at s 0 ≡ 0 → FirstWinners q m w s 0 256
unfolding least_of
first_none q m w s e z = record { size = e; zeroth = z; below = below_none _; wins = λ x l. absurd (not-suc-le-zero l); lowest = refl }

pub first_next : (q m : ℕ) (w s : List ℕ) (k low a n o low' : ℕ) → k < 8 → FirstWinners q m w s k low → Leads q (votes q m k (at w)) a n o → low' ≡ min low (n - o)
    → FirstWinners q m w (set s (k + 1) a) (k + 1) low'
unfolding least_of lead_of
first_next q m w s k low a n o low' h r x e = rw add-one (record {
  size = simp length-set r.size;
  zeroth = get_or-set_other s (suc k) 0 a 0 (λ z. absurd (omega (arith, z))) ∙ r.zeroth;
  below = λ y l. below y (eq-or-lt_of_le (le_of_suc-le-suc l));
  wins = λ y l. wins y (eq-or-lt_of_le (le_of_suc-le-suc l));
  lowest = e ∙ ap₂ min below_lead own_lead;
})
  where
    mine : at (set s (suc k) a) (suc k) ≡ a
    mine = get_or-set_same s (suc k) a 0 (omega (arith, r.size))

    other : (y : ℕ) → y < k → at (set s (suc k) a) (suc y) ≡ at s (suc y)
    other y l = get_or-set_other s (suc k) (suc y) a 0 (λ z. absurd (omega (arith, z)))

    below_lead : low ≡ least_of k (lead_of q m w (set s (suc k) a)) 256
    below_lead = r.lowest ∙ least_of_ext k _ _ 256 (λ y l. ap (λ z. lead q z (votes q m y (at w))) (sym (other y l)))

    own_lead : n - o ≡ lead q (at (set s (suc k) a) (suc k)) (votes q m k (at w))
    own_lead = leads_lead q _ a n o x ∙ ap (λ z. lead q z (votes q m k (at w))) (sym mine)

    below : (y : ℕ) → (y ≡ k) ⊎ (y < k) → at (set s (suc k) a) (suc y) < q
    below y (inl z) = rw (z, mine) x.inside
    below y (inr l) = rw (other y l) (r.below y l)

    wins : (y : ℕ) → (y ≡ k) ⊎ (y < k) → (v : ℕ) → v < q → votes q m y (at w) v ≤ votes q m y (at w) (at (set s (suc k) a) (suc y))
    wins y (inl z) v l = rw (z, mine) (omega (arith, x.top v l, x.own))
    wins y (inr b) v l = rw (other y b) (r.wins y b v l)

pub first_all : (q m : ℕ) (w s : List ℕ) (k low : ℕ) → k ≡ m → FirstWinners q m w s k low → FirstWinners q m w s m low
first_all q m w s k low e r = rw e at r

-- the word of the message with the constant 0 can be written
pub first_fits : (q m : ℕ) (w s c : List ℕ) (low : ℕ) → WellFormed q m w → FirstWinners q m w s m low → 2 ^ m ≤ length c → Fits q m s c
first_fits q m w s c low r t e = record {
  alphabet = r.alphabet;
  low = r.low;
  high = r.high;
  size = omega (arith, t.size, r.high);
  below = below;
  room = e;
}
  where
    below : Below q m (at s)
    below zero l = omega (arith, t.zeroth, bounds q r.alphabet)
    below (suc k) l = t.below k (le_of_suc-le-suc l)

-- WITH THE CONSTANT: the message s with the winner a of the constant
module _ (q m : ℕ) (w s : List ℕ) (r : WellFormed q m w) (low : ℕ) (t : FirstWinners q m w s m low) (a n o : ℕ) (x : Leads q (residues q m (at s) (at w)) a n o) where
  -- the winners
  abbrev d : List ℕ
  d = set s 0 a

  first : at d 0 ≡ a
  first = get_or-set_same s 0 a 0 (omega (arith, t.size))

  rest : (k : ℕ) → at d (suc k) ≡ at s (suc k)
  rest k = get_or-set_other s 0 (suc k) a 0 (λ z. absurd (omega (arith, z)))

  leads : Leads q (tally q m (at d) (at w) 0) a n o
  unfolding tally
  leads = leads_ext q (residues q m (at s) (at w)) (residues q m (at d) (at w)) a n o (λ v l. same_votes v) x
    where
      same_votes : (v : ℕ) → residues q m (at s) (at w) v ≡ residues q m (at d) (at w) v
      same_votes v = tally_ext q m (at s) (at d) (at w) (λ k l. sym (rest k)) 0 v

  below : Below q m (at d)
  below zero l = rw first x.inside
  below (suc k) l = rw (rest k) (t.below k (le_of_suc-le-suc l))

  exact : n + distance q m (at d) (at w) ≡ 2 ^ m
  unfolding tally
  exact =
      ap (λ z. z + distance q m (at d) (at w)) (leads.own ∙ ap (residues q m (at d) (at w)) (sym first))
      ∙ residues_exact q m (at d) (at w) (omega (arith, bounds q r.alphabet)) (below 0 (omega arith)) r.symbols.below

  pub votes_le : n ≤ length w
  votes_le = omega (arith, exact, r.symbols.size)

  wins : Winners q m (at d) (at w)
  unfolding tally
  wins zero l v b = omega (arith, leads.top v b, leads.own, ap (residues q m (at d) (at w)) first)
  wins (suc k) l v b = rw (rest k) (t.wins k (le_of_suc-le-suc l) v b)

  lowest : min low (n - o) ≡ margin q m (at d) (at w)
  unfolding margin tally lead_of
  lowest =
      ap₂ min
      (t.lowest ∙ least_of_ext m _ _ 256 (λ k l. ap (λ z. lead q z (votes q m k (at w))) (sym (rest k))))
      (leads_lead q _ a n o leads ∙ ap (λ z. lead q z (residues q m (at d) (at w))) (sym first))
      ∙ least_of_least m (λ k. lead q (at d k) (tally q m (at d) (at w) k)) 256 small
    where
      small : lead q (at d 0) (residues q m (at d) (at w)) ≤ 256
      small =
          omega (
            arith,
            leads_lead q _ a n o leads,
            ap (λ z. lead q z (residues q m (at d) (at w))) first,
            votes_le,
            r.symbols.size,
            pow_mono {i = m} {j = 8} r.high,
          )

  pub winning : (s' : List ℕ) (wrong' margin' : ℕ) → s' ≡ set s 0 a → wrong' ≡ length w - n → margin' ≡ min low (n - o) → Winning q m w s' wrong' margin'
  winning s' wrong' margin' e f g = rw e (record {
    size = simp length-set t.size;
    below = below;
    wins = wins;
    distance = f ∙ omega (arith, exact, r.symbols.size);
    least = g ∙ lowest;
  })
