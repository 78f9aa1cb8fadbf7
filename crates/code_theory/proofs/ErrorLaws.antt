-- The lead and the margin by the errors of a word: what it differs by from the word of a message. Assumes nothing.
use Prim.Native.Nat.{ℕ, zero, suc, ◌+◌, ◌*◌, ◌-◌, ◌/◌, ◌%◌, ◌^◌, ◌≤◌, ◌<◌, max}
use mathlib.Core.Path.{◌≡◌, refl, ap, ap₂, sym, ◌∙◌}
use mathlib.Core.Logic.{◌≢◌, ◌⊎◌, inl, inr}
use native.Mathlib.Nat.{mod-lt, mod-eq_of_lt, mod-add-mod, add-mod, zero-add, not-suc-le-zero, eq-or-lt_of_le, le_of_suc-le-suc, le_antisymm}
use native.Mathlib.Decide.{ℕ_discrete}
use native.Mathlib.Omega.{arith}
use Rattle.code_theory.specs.Sum.{sum}
use Rattle.code_theory.specs.Index.{bit, if_clear}
use Rattle.code_theory.specs.Modular.{sub_mod, same, differ}
use Rattle.code_theory.specs.Code.{linear, symbol_at, Below}
use Rattle.code_theory.specs.Near.{distance, Near}
use Rattle.code_theory.specs.Vote.{count, vote, votes, residues, tally}
use Rattle.code_theory.specs.Margin.{most_other, lead, margin}
use Rattle.code_theory.proofs.SumLaws.{sum_ext, sum_le, sum_add, sum_const}
use Rattle.code_theory.proofs.IndexLaws.{pairing, half_clear}
use Rattle.code_theory.proofs.ModularLaws.{sub_mod_lt, sub_mod_mod, sub_mod_add, add_sub_mod, sub_mod_is, add_cancel, same_eq, same_ne, same_le, differ_eq, differ_ne}
use Rattle.code_theory.proofs.CodeLaws.{linear_partner, symbol_at_lt}
use Rattle.code_theory.proofs.VoteLaws.{tally_own, tally_other, residues_exact}
use Rattle.code_theory.specs.Internal.{error, sum_from1, max_from1}
use Rattle.code_theory.proofs.MarginLaws.{most_other_le, le_most_other, least_le, margin_bound}

-- THE CONSTANT'S LEAD: for a near message it is at least half of the places
pub constant_lead : (q m : ℕ) (s y : ℕ → ℕ) → 0 < q → Below q m s → ((i : ℕ) → i < 2 ^ m → y i < q) → Near q m s y → 2 ^ m / 2 ≤ lead q (s 0) (tally q m s y 0)
unfolding lead tally
constant_lead q m s y hq hs hy n =
    let l : 0 < suc m = omega arith in
    omega (
      arith,
      residues_exact q m s y hq (hs 0 l) hy,
      most_other_le q (s 0) (residues q m s y) (distance q m s y) (λ u b d. tally_other q m s y hq 0 l (hs 0 l) u d),
    )

if_clear_mono : (b x y : ℕ) → x ≤ y → if_clear b x ≤ if_clear b y
unfolding if_clear
if_clear_mono zero x y l = l
if_clear_mono (suc b) x y l = omega arith

-- no value has more votes than there are open places
pub votes_le_half : (q m k : ℕ) (y : ℕ → ℕ) → k < m → (v : ℕ) → votes q m k y v ≤ 2 ^ m / 2
unfolding votes count
votes_le_half q m k y h v =
    omega (
      arith,
      half_clear k m h,
      sum_le (2 ^ m) (λ i. if_clear (bit k i) (same (vote q k y i) v)) (λ i. if_clear (bit k i) 1) (λ i l. if_clear_mono (bit k i) _ _ (same_le (vote q k y i) v)),
    )

-- A COEFFICIENT'S LEAD is at most half of the places
pub lead_le_half : (q m k v : ℕ) (y : ℕ → ℕ) → k < m → lead q v (votes q m k y) ≤ 2 ^ m / 2
unfolding lead
lead_le_half q m k v y h = omega (arith, votes_le_half q m k y h v)

pub error_lt : (q m : ℕ) (s y : ℕ → ℕ) (i : ℕ) → 0 < q → error q m s y i < q
unfolding error
error_lt q m s y i h = sub_mod_lt q _ _ h

-- what two symbols differ by, when c + t is taken off the one and c off the other
sub_shift : (q a b c t : ℕ) → 0 < q → sub_mod q (sub_mod q a ((c + t) % q)) (sub_mod q b c) ≡ sub_mod q (sub_mod q a b) t
sub_shift q a b c t h =
    let z = sub_mod q (sub_mod q a b) t in
    let e = sub_mod q b c in
    let r : z + e + (c + t) ≡ z + t + (e + c) = omega arith in
    let f : ((z + e) % q + (c + t)) % q ≡ a % q =
    mod-add-mod (z + e) q (c + t) ∙ ap (λ x. x % q) r ∙ add-mod (z + t) (e + c) q
    ∙ ap₂ (λ x w. (x + w) % q) (add_sub_mod q (sub_mod q a b) t h) (add_sub_mod q b c h)
    ∙ sym (add-mod (sub_mod q a b) b q) ∙ add_sub_mod q a b h in
    let g : (z + e) % q ≡ sub_mod q a ((c + t) % q) = sym (sub_mod_mod q a (c + t) ∙ sub_mod_is q a (c + t) ((z + e) % q) h (mod-lt (z + e) {m = q} h) f) in
    sub_mod_is q _ e z h (sub_mod_lt q _ t h) (g ∙ sym (mod-eq_of_lt (sub_mod_lt q a ((c + t) % q) h)))

-- the errors give what the word gives, less the coefficient
error_vote : (q m k : ℕ) (s y : ℕ → ℕ) (i : ℕ) → 0 < q → k < m → bit k i ≡ 0 → vote q k (error q m s y) i ≡ sub_mod q (vote q k y i) (s (suc k))
unfolding vote error symbol_at
error_vote q m k s y i hq hk z =
    let l = linear m (λ j. s (suc j)) i in
    let e : s 0 + (l + s (suc k)) ≡ s 0 + l + s (suc k) = omega arith in
    rw (linear_partner k m hk (λ j. s (suc j)) i z, e, ← mod-add-mod (s 0 + l) q (s (suc k))) (sub_shift q _ _ _ _ hq)

vote_lt : (q k : ℕ) (y : ℕ → ℕ) (i : ℕ) → 0 < q → vote q k y i < q
unfolding vote
vote_lt q k y i h = sub_mod_lt q _ _ h

-- a difference is v exactly if the number is v + t
same_shift : (q x t v : ℕ) → 0 < q → x < q → v < q → same (sub_mod q x t) v ≡ same x ((v + t) % q)
same_shift q x t v h lx lv = go (ℕ_discrete x ((v + t) % q))
  where
    go : Dec (x ≡ (v + t) % q) → same (sub_mod q x t) v ≡ same x ((v + t) % q)
    go (yes e) = same_eq _ _ (ap (λ w. sub_mod q w t) e ∙ sub_mod_add q v t h ∙ mod-eq_of_lt lv) ∙ sym (same_eq _ _ e)
    go (no d) = same_ne _ _ (λ e. d (sym (mod-eq_of_lt lx) ∙ sym (add_sub_mod q x t h) ∙ ap (λ w. (w + t) % q) e)) ∙ sym (same_ne _ _ d)

-- VOTES OF THE ERRORS: the errors give v the votes that the word gives v + s (k + 1)
pub error_votes : (q m k : ℕ) (s y : ℕ → ℕ) → 0 < q → k < m → (v : ℕ) → v < q → votes q m k (error q m s y) v ≡ votes q m k y ((v + s (suc k)) % q)
unfolding votes count if_clear
error_votes q m k s y hq hk v lv = sum_ext (2 ^ m) _ _ (λ i l. go i (bit k i) refl)
  where
    go : (i b : ℕ) → bit k i ≡ b → if_clear b (same (vote q k (error q m s y) i) v) ≡ if_clear b (same (vote q k y i) ((v + s (suc k)) % q))
    go i zero z = ap (λ x. same x v) (error_vote q m k s y i hq hk z) ∙ same_shift q _ (s (suc k)) v hq (vote_lt q k y i hq) lv
    go i (suc b) z = refl

-- a number below q is its own remainder
zero_shift : (q t : ℕ) → t < q → (0 + t) % q ≡ t
zero_shift q t l = rw zero-add (mod-eq_of_lt l)

pub error_own : (q m k : ℕ) (s y : ℕ → ℕ) → 0 < q → k < m → s (suc k) < q → votes q m k (error q m s y) 0 ≡ votes q m k y (s (suc k))
error_own q m k s y hq hk hs = error_votes q m k s y hq hk 0 hq ∙ ap (votes q m k y) (zero_shift q (s (suc k)) hs)

-- LEAD BY ERRORS: the lead of a coefficient is the lead of 0 among the votes of the errors
pub lead_error : (q m k : ℕ) (s y : ℕ → ℕ) → 0 < q → k < m → s (suc k) < q → lead q (s (suc k)) (votes q m k y) ≡ lead q 0 (votes q m k (error q m s y))
unfolding lead
lead_error q m k s y hq hk hs =
    ap₂ (λ a b. a - b) (sym (error_own q m k s y hq hk hs))
    (le_antisymm (most_other_le q c f (most_other q 0 g) down) (most_other_le q 0 g (most_other q c f) up))
  where
    c : ℕ
    c = s (suc k)

    f : ℕ → ℕ
    f = votes q m k y

    g : ℕ → ℕ
    g = votes q m k (error q m s y)

    down : (u : ℕ) → u < q → u ≢ c → f u ≤ most_other q 0 g
    down u l d =
        let back : (sub_mod q u c + c) % q ≡ u = add_sub_mod q u c hq ∙ mod-eq_of_lt l in
        let e : g (sub_mod q u c) ≡ f u = error_votes q m k s y hq hk (sub_mod q u c) (sub_mod_lt q u c hq) ∙ ap f back in
        omega (arith, e, le_most_other q 0 g (sub_mod q u c) (sub_mod_lt q u c hq) (λ z. d (sym back ∙ ap (λ x. (x + c) % q) z ∙ zero_shift q c hs)))

    up : (v : ℕ) → v < q → v ≢ 0 → g v ≤ most_other q c f
    up v l d =
        omega (
          arith,
          error_votes q m k s y hq hk v l,
          le_most_other q c f ((v + c) % q) (mod-lt (v + c) {m = q} hq) (λ z. d (add_cancel q v 0 c hq l hq (z ∙ sym (zero_shift q c hs)))),
        )

-- a place is damaged exactly if its error is not 0
differ_error : (q a b : ℕ) → 0 < q → a < q → b < q → differ a b ≡ differ 0 (sub_mod q b a)
differ_error q a b h la lb = go (ℕ_discrete a b)
  where
    go : Dec (a ≡ b) → differ a b ≡ differ 0 (sub_mod q b a)
    go (yes e) = differ_eq a b e ∙ sym (differ_eq 0 _ (sym (sub_mod_is q b a 0 h h (ap (λ x. x % q) (zero-add a ∙ e)))))
    go (no d) = differ_ne a b d ∙ sym (differ_ne 0 _ (λ z. d (sym (zero_shift q a la) ∙ ap (λ x. (x + a) % q) z ∙ add_sub_mod q b a h ∙ mod-eq_of_lt lb)))

-- DISTANCE BY ERRORS: it is the count of the errors that are not 0
pub error_distance : (q m : ℕ) (s y : ℕ → ℕ) → 0 < q → ((i : ℕ) → i < 2 ^ m → y i < q) → distance q m s y ≡ sum (2 ^ m) (λ i. differ 0 (error q m s y i))
unfolding distance error
error_distance q m s y h hy = sum_ext (2 ^ m) _ _ (λ i l. differ_error q (symbol_at q m s i) (y i) h (symbol_at_lt q m s i h) (hy i l))

-- sums and maxima of equal terms
pub sum_from1_ext : (n : ℕ) (f g : ℕ → ℕ) → ((v : ℕ) → 1 ≤ v → f v ≡ g v) → sum_from1 n f ≡ sum_from1 n g
unfolding sum_from1
sum_from1_ext zero f g h = refl
sum_from1_ext (suc n) f g h = ap₂ (λ x y. x + y) (sum_from1_ext n f g h) (h (suc n) (omega arith))

pub max_from1_ext : (n : ℕ) (f g : ℕ → ℕ) → ((v : ℕ) → 1 ≤ v → f v ≡ g v) → max_from1 n f ≡ max_from1 n g
unfolding max_from1
max_from1_ext zero f g h = refl
max_from1_ext (suc n) f g h = ap₂ max (max_from1_ext n f g h) (h (suc n) (omega arith))

sum_from_1 : (n : ℕ) (f : ℕ → ℕ) → sum (suc n) f ≡ f 0 + sum_from1 n f
unfolding sum sum_from1
sum_from_1 zero f = omega arith
sum_from_1 (suc n) f = omega (arith, sum_from_1 n f)

most_from_1 : (n : ℕ) (f : ℕ → ℕ) → most_other (suc n) 0 f ≡ max_from1 n f
unfolding most_other max_from1 if_clear
most_from_1 zero f = rw (same_eq 0 0 refl) refl
most_from_1 (suc n) f = rw (same_ne (suc n) 0 (λ e. absurd (omega (arith, e)))) (ap (λ x. max x (f (suc n))) (most_from_1 n f))

-- where the sum is not 0, the most is not 0
pub some_from_1 : (n : ℕ) (f : ℕ → ℕ) → (sum_from1 n f ≡ 0) ⊎ (1 ≤ max_from1 n f)
unfolding sum_from1 max_from1
some_from_1 zero f = inl refl
some_from_1 (suc n) f = go (ℕ_discrete (f (suc n)) 0) (some_from_1 n f)
  where
    go : Dec (f (suc n) ≡ 0) → (sum_from1 n f ≡ 0) ⊎ (1 ≤ max_from1 n f) → (sum_from1 n f + f (suc n) ≡ 0) ⊎ (1 ≤ max (max_from1 n f) (f (suc n)))
    go (yes e) (inl z) = inl (omega (arith, e, z))
    go (yes e) (inr l) = inr (omega (arith, l))
    go (no d) c = inr (omega (arith, d))

-- two sums, either one inside
sum_swap : (a b : ℕ) (g : ℕ → ℕ → ℕ) → sum a (λ v. sum b (λ i. g v i)) ≡ sum b (λ i. sum a (λ v. g v i))
unfolding sum
sum_swap zero b g = omega (arith, sum_const b 0)
sum_swap (suc a) b g = omega (arith, sum_swap a b g, sum_add b (λ i. sum a (λ v. g v i)) (λ i. g a i))

-- a number below q is one of the values below q, once
same_none : (q x : ℕ) → q ≤ x → sum q (λ v. same x v) ≡ 0
unfolding sum
same_none zero x l = refl
same_none (suc q) x l = omega (arith, same_none q x (omega arith), same_ne x q (λ e. absurd (omega (arith, e))))

same_once : (q x : ℕ) → x < q → sum q (λ v. same x v) ≡ 1
unfolding sum
same_once zero x l = absurd (not-suc-le-zero l)
same_once (suc q) x l = go (λ h. same_once q x h) (eq-or-lt_of_le (le_of_suc-le-suc l))
  where
    go : (x < q → sum q (λ v. same x v) ≡ 1) → (x ≡ q) ⊎ (x < q) → sum q (λ v. same x v) + same x q ≡ 1
    go ih (inl e) = omega (arith, same_none q x (omega (arith, e)), same_eq x q e)
    go ih (inr h) = omega (arith, ih h, same_ne x q (λ e. absurd (omega (arith, e))))

-- ALL VOTES: each open place gives one value below q, so the votes for all values are the open places
pub count_total : (n q : ℕ) (closed given : ℕ → ℕ) → ((i : ℕ) → i < n → given i < q) → sum q (count n closed given) ≡ sum n (λ i. if_clear (closed i) 1)
unfolding count if_clear
count_total n q closed given h =
    sum_swap q n (λ v i. if_clear (closed i) (same (given i) v)) ∙ sum_ext n _ _ (λ i l. go i (h i l) (closed i))
  where
    go : (i : ℕ) → given i < q → (b : ℕ) → sum q (λ v. if_clear b (same (given i) v)) ≡ if_clear b 1
    go i l zero = same_once q (given i) l
    go i l (suc b) = sum_const q 0 ∙ omega arith

-- the votes for 0 and for the values from 1 to q - 1 are half of the places
pub votes_total : (q m k : ℕ) (y : ℕ → ℕ) → 0 < q → k < m → votes q m k y 0 + sum_from1 (q - 1) (votes q m k y) ≡ 2 ^ m / 2
unfolding votes
votes_total q m k y hq hk = go (q - 1) (omega arith)
  where
    go : (p : ℕ) → q ≡ suc p → votes q m k y 0 + sum_from1 p (votes q m k y) ≡ 2 ^ m / 2
    go p e =
        omega (
          arith,
          half_clear k m hk,
          count_total (2 ^ m) q (bit k) (vote q k y) (λ i l. vote_lt q k y i hq),
          ap (λ x. sum x (votes q m k y)) e,
          sum_from_1 p (votes q m k y),
        )

-- THE LEAD OF 0: half of the places, less the votes for the values from 1 to q - 1, less the most of them
pub lead_zero : (q m k : ℕ) (y : ℕ → ℕ) → 0 < q → k < m → lead q 0 (votes q m k y) ≡ 2 ^ m / 2 - sum_from1 (q - 1) (votes q m k y) - max_from1 (q - 1) (votes q m k y)
unfolding lead
lead_zero q m k y hq hk =
    let e : q ≡ suc (q - 1) = omega arith in
    omega (
      arith,
      votes_total q m k y hq hk,
      ap (λ x. most_other x 0 (votes q m k y)) e,
      most_from_1 (q - 1) (votes q m k y),
    )

-- BAD VOTES: of the errors' votes, at most the distance are not for 0
pub bad_le : (q m k : ℕ) (s y : ℕ → ℕ) → 0 < q → k < m → s (suc k) < q → sum_from1 (q - 1) (votes q m k (error q m s y)) ≤ distance q m s y
unfolding tally
bad_le q m k s y hq hk hs =
    omega (
      arith,
      votes_total q m k (error q m s y) hq hk,
      error_own q m k s y hq hk hs,
      half_clear k m hk,
      tally_own q m s y hq (suc k) (omega arith) hs,
    )

-- one term is at most the sum
term_le : (n : ℕ) (f : ℕ → ℕ) (i : ℕ) → i < n → f i ≤ sum n f
unfolding sum
term_le zero f i l = absurd (not-suc-le-zero l)
term_le (suc n) f i l = go (λ h. term_le n f i h) (eq-or-lt_of_le (le_of_suc-le-suc l))
  where
    go : (i < n → f i ≤ sum n f) → (i ≡ n) ⊎ (i < n) → f i ≤ sum n f + f n
    go ih (inl e) = omega (arith, ap f e)
    go ih (inr h) = omega (arith, ih h)

-- a pair with one error gives no 0
one_bad : (q a b : ℕ) → 0 < q → a < q → b < q → differ 0 b + differ 0 a ≤ 1 → same (sub_mod q a b) 0 + (differ 0 b + differ 0 a) ≤ 1
one_bad q a b h la lb l = go (ℕ_discrete (sub_mod q a b) 0)
  where
    go : Dec (sub_mod q a b ≡ 0) → same (sub_mod q a b) 0 + (differ 0 b + differ 0 a) ≤ 1
    go (yes z) =
        let e : a ≡ b = sym (mod-eq_of_lt la) ∙ sym (add_sub_mod q a b h) ∙ ap (λ x. (x + b) % q) z ∙ zero_shift q b lb in
        omega (arith, l, same_le (sub_mod q a b) 0, ap (differ 0) e)
    go (no d) = omega (arith, l, same_ne _ _ d)

-- with at most one error, the votes for 0 and the errors are together at most half of the places
few_errors : (q m k : ℕ) (e : ℕ → ℕ) → 0 < q → k < m → ((i : ℕ) → e i < q) → sum (2 ^ m) (λ i. differ 0 (e i)) ≤ 1
    → votes q m k e 0 + sum (2 ^ m) (λ i. differ 0 (e i)) ≤ 2 ^ m / 2
unfolding votes count vote if_clear
few_errors q m k e hq hk he few =
    omega (
      arith,
      half_clear k m hk,
      total,
      sum_add (2 ^ m) (λ i. if_clear (bit k i) (same (sub_mod q (e (i + 2 ^ k)) (e i)) 0)) (λ i. if_clear (bit k i) (differ 0 (e i) + differ 0 (e (i + 2 ^ k)))),
      sum_le (2 ^ m) (λ i. if_clear (bit k i) (same (sub_mod q (e (i + 2 ^ k)) (e i)) 0) + if_clear (bit k i) (differ 0 (e i) + differ 0 (e (i + 2 ^ k)))) (λ i. if_clear (bit k i) 1)
          (λ i l. go i (bit k i) (omega (arith, few, total, term_le (2 ^ m) (λ i. if_clear (bit k i) (differ 0 (e i) + differ 0 (e (i + 2 ^ k)))) i l))),
    )
  where
    total : sum (2 ^ m) (λ i. if_clear (bit k i) (differ 0 (e i) + differ 0 (e (i + 2 ^ k)))) ≡ sum (2 ^ m) (λ i. differ 0 (e i))
    total = pairing k m hk (λ i. differ 0 (e i))

    go : (i b : ℕ) → if_clear b (differ 0 (e i) + differ 0 (e (i + 2 ^ k))) ≤ 1
        → if_clear b (same (sub_mod q (e (i + 2 ^ k)) (e i)) 0) + if_clear b (differ 0 (e i) + differ 0 (e (i + 2 ^ k))) ≤ if_clear b 1
    go i zero l = one_bad q (e (i + 2 ^ k)) (e i) hq (he (i + 2 ^ k)) (he i) l
    go i (suc b) l = omega arith

-- with at most one error a coefficient leads by at most half of the places less twice the errors
pub lead_few : (q m k : ℕ) (s y : ℕ → ℕ) → 0 < q → k < m → s (suc k) < q → ((i : ℕ) → i < 2 ^ m → y i < q) → distance q m s y ≤ 1
    → lead q (s (suc k)) (votes q m k y) ≤ 2 ^ m / 2 - 2 * distance q m s y
lead_few q m k s y hq hk hs hy few = go (some_from_1 (q - 1) (votes q m k (error q m s y)))
  where
    bound : votes q m k (error q m s y) 0 + distance q m s y ≤ 2 ^ m / 2
    bound =
        let e = error_distance q m s y hq hy in
        omega (arith, e, few_errors q m k (error q m s y) hq hk (λ i. error_lt q m s y i hq) (omega (arith, few, e)))

    go : (sum_from1 (q - 1) (votes q m k (error q m s y)) ≡ 0) ⊎ (1 ≤ max_from1 (q - 1) (votes q m k (error q m s y))) → lead q (s (suc k)) (votes q m k y) ≤ 2 ^ m / 2 - 2 * distance q m s y
    go (inl z) =
        omega (arith, z, bound, votes_total q m k (error q m s y) hq hk, lead_error q m k s y hq hk hs, lead_zero q m k (error q m s y) hq hk)
    go (inr l) =
        omega (arith, l, few, bound, votes_total q m k (error q m s y) hq hk, lead_error q m k s y hq hk hs, lead_zero q m k (error q m s y) hq hk)

-- MARGIN OF FEW ERRORS: with at most one it is exactly n / 2 - 2 × distance
pub margin_few : (q m : ℕ) (s y : ℕ → ℕ) → 0 < q → 0 < m → Below q m s → ((i : ℕ) → i < 2 ^ m → y i < q) → distance q m s y ≤ 1
    → margin q m s y ≡ 2 ^ m / 2 - 2 * distance q m s y
unfolding margin tally
margin_few q m s y hq hm hs hy few =
    let l : 1 < suc m = omega arith in
    omega (
      arith,
      margin_bound q m s y hq hs,
      least_le m (λ k. lead q (s k) (tally q m s y k)) 1 l,
      lead_few q m 0 s y hq hm (hs 1 l) hy few,
    )
