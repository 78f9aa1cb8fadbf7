-- The errors of a word place by place, and their number. Assumes nothing.
use Prim.Native.Nat.{ℕ, suc, ◌+◌, ◌*◌, ◌-◌, ◌%◌, ◌^◌, ◌≤◌, ◌<◌}
use mathlib.Core.Path.{◌≡◌, refl, ap, ap₂, sym, ◌∙◌}
use mathlib.Core.Bool.{true}
use mathlib.Core.List.{List}
use native.Mathlib.Decide.{dec_lt}
use native.Mathlib.Omega.{arith}
use native.Mathlib.Nat.{zero-add, mod-add-mod}
use borrow.Author.Tests.{ltb-true, leb-true}
use lib.Dec.{leb, ltb}
use lib.ListN.{length, get_or-eq_default}
use lib.Pow.{pow_mono}
use Rattle.code_theory.specs.Sum.{sum, every, at}
use Rattle.code_theory.specs.Index.{bit}
use Rattle.code_theory.specs.Modular.{sub_mod, differ}
use Rattle.code_theory.specs.Code.{linear, symbol_at}
use Rattle.code_theory.specs.Near.{distance}
use Rattle.code_theory.specs.Question.{is_alphabet}
use Rattle.code_theory.specs.Vote.{votes}
use Rattle.code_theory.proofs.SumLaws.{sum_ext, sum_split}
use Rattle.code_theory.proofs.IndexLaws.{second_low, second_set}
use Rattle.code_theory.proofs.CodeLaws.{linear_low}
use Rattle.code_theory.proofs.QuestionLaws.{alphabet_positive}
use Rattle.code_theory.proofs.ModularLaws.{sub_mod_lt}
use Rattle.code_theory.proofs.ErrorLaws.{error_distance}
use Rattle.code_theory.specs.Internal.{error, sum_from1, WellFormed}
use Rattle.swar_theory.specs.Internal.{digit}
use Rattle.swar_lanes.specs.Internal.{offset, lane_of, Lanes, LanesBelow, Held, place_of, places_of}
use Rattle.code_theory.proofs.WordLaws.{bounds}
use Rattle.swar_count.specs.Internal.{Mask, marked_equal}
use Rattle.swar_count.proofs.EqualLaws.{mask_is, marked_le}
use Rattle.decode_short_errors.specs.Internal.{plain}
use Rattle.decode_short_candidate.specs.Internal.{CandidateOfBoth}
use Rattle.swar_lanes.proofs.LaneLaws.{lane_lt, lane_place, none_lanes, at_lane, first_places, second_places}
use Rattle.decode_short_verify.specs.Internal.{Left, Verifies}
use Rattle.decode_short_verify.proofs.PlaceLaws.{left, first_four, first_eight, second_eight}

-- SIXTEEN PLACES minus the word of a message
pub left_is : (q x a : ℕ) (d : List ℕ) (code r : ℕ) → 0 < q → Lanes code (λ t. plain q d (offset t))
    → Lanes r (λ t. sub_mod q (sub_mod q (digit 4 x t) (digit 4 code t)) a) → Left q x a d r
unfolding plain linear sum
left_is q x a d code r h e f t k =
    f t k ∙ ap (λ z. sub_mod q (sub_mod q (digit 4 x t) z) a) (e t k)
    ∙ left q (digit 4 x t) a (at d 1 * bit 0 (offset t) + at d 2 * bit 1 (offset t) + at d 3 * bit 2 (offset t) + at d 4 * bit 3 (offset t)) h
    ∙ ap (λ z. sub_mod q (digit 4 x t) ((a + (z + at d 2 * bit 1 (offset t) + at d 3 * bit 2 (offset t) + at d 4 * bit 3 (offset t))) % q)) (sym (zero-add (at d 1 * bit 0 (offset t))))

pub left_below : (q x a : ℕ) (d : List ℕ) (r : ℕ) → 0 < q → Left q x a d r → LanesBelow q r
left_below q x a d r h l t k = omega (arith, l t k, sub_mod_lt q (digit 4 x t) ((a + linear 4 (λ k. at d (suc k)) (offset t)) % q) h)

pub symbol_low : (q m n : ℕ) (s : ℕ → ℕ) (i : ℕ) → m ≤ n → i < 2 ^ m → symbol_at q n s i ≡ symbol_at q m s i
unfolding symbol_at
symbol_low q m n s i h l = ap (λ z. (s 0 + z) % q) (linear_low m n (λ k. s (suc k)) i h l)

-- the fifth coefficient is added to every place of the second sixteen, as the constant is
pub symbol_high : (q : ℕ) (s : ℕ → ℕ) (i : ℕ) → i < 16 → symbol_at q 5 s (16 + i) ≡ ((s 0 + s 5) % q + linear 4 (λ k. s (suc k)) i) % q
unfolding symbol_at linear sum
symbol_high q s i h =
    let c : ℕ → ℕ = λ k. s (suc k) in
    let lows : linear 4 c (16 + i) ≡ linear 4 c i = sum_ext 4 _ _ (λ k l. ap (λ z. c k * z) (second_low k 4 i l)) in
    ap₂ (λ x y. (s 0 + (x + s 5 * y)) % q) lows (second_set 4 i h) ∙ ap (λ z. z % q) (shift (s 0) (linear 4 c i) (s 5)) ∙ sym (mod-add-mod (s 0 + s 5) q (linear 4 c i))
  where
    shift : (a l c : ℕ) → a + (l + c * 1) ≡ a + c + l
    shift a l c = omega arith

symbol_four : (q : ℕ) (s : ℕ → ℕ) (i : ℕ) → (s 0 + linear 4 (λ k. s (suc k)) i) % q ≡ symbol_at q 4 s i
unfolding symbol_at
symbol_four q s i = refl

-- the fifth coefficient is added to no place of the first sixteen
symbol_first : (q m : ℕ) (s : ℕ → ℕ) (i : ℕ) → m ≤ 5 → i < 2 ^ m → i < 16 → (s 0 + linear 4 (λ k. s (suc k)) i) % q ≡ symbol_at q m s i
symbol_first q m s i h l k = go (dec_lt m 5)
  where
    whole : (s 0 + linear 4 (λ k. s (suc k)) i) % q ≡ symbol_at q 4 s i
    whole = symbol_four q s i

    go : Dec (m < 5) → (s 0 + linear 4 (λ k. s (suc k)) i) % q ≡ symbol_at q m s i
    go (yes j) = whole ∙ symbol_low q m 4 s i (omega arith) l
    go (no j) = let e : m ≡ 5 = omega arith in whole ∙ sym (symbol_low q 4 5 s i (omega arith) k) ∙ ap (λ z. symbol_at q z s i) (sym e)

pub place_lanes : (e : ℕ) → Lanes e (λ t. place_of e (offset t))
place_lanes e t h = sym (at_lane e t h)

-- the error of a place that x holds from place b on
place_left : (q x a : ℕ) (d : List ℕ) (e b : ℕ) (w : List ℕ) → Held w b x → Left q x a d e → (i : ℕ) → i < 16
    → place_of e i ≡ sub_mod q (at w (b + i)) ((a + linear 4 (λ k. at d (suc k)) i) % q)
unfolding place_of
place_left q x a d e b w h l i k =
    l (lane_of i) (lane_lt i k)
    ∙ ap₂ (sub_mod q) (h (lane_of i) (lane_lt i k) ∙ ap (λ z. at w (b + z)) (lane_place i k)) (ap (λ z. (a + linear 4 (λ k. at d (suc k)) z) % q) (lane_place i k))

-- WHAT THE COUNT of the places without an error requires: symbols below 8, and a literal that marks fewer than 15 places
pub count_asks : (e v c : ℕ) → LanesBelow 8 e → ltb v 8 ≡ true → every 16 (λ t. ltb (digit 4 c t) 2) ≡ true → ltb (sum 16 (digit 4 c)) 15 ≡ true
    → LanesBelow 8 e × (v < 8) × Mask c × (marked_equal e v c < 15)
count_asks e v c h l t f = (h, ltb-true v 8 l, mask_is c t, omega (arith, marked_le e v c, ltb-true (sum 16 (digit 4 c)) 15 f))

-- where n places or fewer are marked, n or fewer have no error
pub count_le : (e v c n y : ℕ) → leb (sum 16 (digit 4 c)) n ≡ true → y ≡ marked_equal e v c → y ≤ n
count_le e v c n y l f = omega (arith, f, leb-true (sum 16 (digit 4 c)) n l, marked_le e v c)

-- only words of 32 places have a place 16
last_length : (m i : ℕ) → m ≤ 5 → i < 2 ^ m → 16 ≤ i → m ≡ 5
last_length m i h l k = go (dec_lt m 5)
  where
    go : Dec (m < 5) → m ≡ 5
    go (yes j) = absurd (omega (arith, l, k, pow_mono {i = m} {j = 4} (omega arith)))
    go (no j) = omega arith

-- A WORD OF 16 PLACES or fewer has none in the second number
pub none_second : (w : List ℕ) → length w ≤ 16 → Held w 16 0
none_second w h t k = none_lanes t k ∙ sym (get_or-eq_default w 0 {n = 16 + offset t} (omega arith))

-- HOW MANY PLACES have an error
pub wrong_first : (m e f wrong : ℕ) → m ≤ 4 → wrong ≡ sum (2 ^ m) (λ i. differ 0 (place_of e i)) → wrong ≡ sum (2 ^ m) (λ i. differ 0 (places_of e f i))
wrong_first m e f wrong h g =
    g ∙ sum_ext (2 ^ m) _ _ (λ i k. ap (differ 0) (sym (first_places e f i (omega (arith, k, pow_mono {i = m} {j = 4} h)))))

pub wrong_both : (e f u v : ℕ) → u ≡ sum 16 (λ i. differ 0 (place_of e i)) → v ≡ sum 16 (λ i. differ 0 (place_of f i)) → u + v ≡ sum (2 ^ 5) (λ i. differ 0 (places_of e f i))
wrong_both e f u v p z =
    ap₂ (λ x y. x + y)
    (p ∙ sum_ext 16 _ _ (λ i h. ap (differ 0) (sym (first_places e f i h))))
    (z ∙ sum_ext 16 _ _ (λ i h. ap (differ 0) (sym (second_places e f (16 + i) i refl))))
    ∙ sym (sum_split 16 16 (λ i. differ 0 (places_of e f i)))

pub wrong_at : (m n e f wrong : ℕ) → m ≡ n → wrong ≡ sum (2 ^ n) (λ i. differ 0 (places_of e f i)) → wrong ≡ sum (2 ^ m) (λ i. differ 0 (places_of e f i))
wrong_at m n e f wrong h g = rw h g

pub wrong_4 : (e y : ℕ) → y ≡ marked_equal e 0 0x0101_0101 → 4 - y ≡ sum (2 ^ 2) (λ i. differ 0 (place_of e i))
wrong_4 e y f = omega (arith, first_four e (place_of e) (place_lanes e), f)

pub wrong_8 : (e y : ℕ) → y ≡ marked_equal e 0 0x0101_0101_0101_0101 → 8 - y ≡ sum (2 ^ 3) (λ i. differ 0 (place_of e i))
wrong_8 e y f = omega (arith, first_eight e (place_of e) (place_lanes e), f)

pub wrong_16 : (e r y z : ℕ) → y ≡ marked_equal e 0 0x0101_0101_0101_0101 → z ≡ marked_equal e 0 0x1010_1010_1010_1010 → r ≡ 16 - y - z
    → (r ≡ sum 16 (λ i. differ 0 (place_of e i))) × (r ≤ 16)
wrong_16 e r y z f g h =
    let a = first_eight e (place_of e) (place_lanes e) in
    let b = second_eight e (place_of e) (place_lanes e) in
    let c = sum_split 8 8 (λ i. differ 0 (place_of e i)) in
    (omega (arith, a, b, c, f, g, h), omega (arith, h))

-- EVERY SYMBOL of a received word is below q, and so is the 0 past its end
pub word_below : (q m : ℕ) (w : List ℕ) → WellFormed q m w → (i : ℕ) → at w i < q
word_below q m w r i = go (dec_lt i (2 ^ m))
  where
    go : Dec (i < 2 ^ m) → at w i < q
    go (yes l) = r.symbols.below i l
    go (no l) = omega (arith, get_or-eq_default w 0 {n = i} (omega (arith, r.symbols.size, l)), bounds q r.alphabet)

pub held_below : (q m : ℕ) (w : List ℕ) (b x : ℕ) → WellFormed q m w → Held w b x → LanesBelow q x
held_below q m w b x r h t k = omega (arith, h t k, word_below q m w r (b + offset t))

pub below_eight : (q x : ℕ) → is_alphabet q ≡ true → LanesBelow q x → LanesBelow 8 x
below_eight q x a h t k = omega (arith, h t k, bounds q a)

-- A WORD of up to 32 places verified: d is its candidate, e has the errors of the first sixteen places and f of the second
module _ (q m : ℕ) (w : List ℕ) (r : WellFormed q m w) (high : m ≤ 5) (x y : ℕ) (d : List ℕ) (b e f : ℕ) (hx : Held w 0 x) (hy : Held w 16 y) (eb : b ≡ (at d 0 + at d 5) % q)
    (l : Left q x (at d 0) d e) (k : Left q y b d f) (o : CandidateOfBoth q m x y d) where
  low_error : (i : ℕ) → i < 2 ^ m → i < 16 → places_of e f i ≡ error q m (at d) (at w) i
  unfolding error
  low_error i j h =
      first_places e f i h ∙ place_left q x (at d 0) d e 0 w hx l i h
      ∙ ap₂ (sub_mod q) (ap (at w) (zero-add i)) (symbol_first q m (at d) i high j h)

  high_error : m ≡ 5 → (i : ℕ) → i < 16 → places_of e f (16 + i) ≡ error q m (at d) (at w) (16 + i)
  unfolding error
  high_error five i h =
      second_places e f (16 + i) i refl ∙ place_left q y b d f 16 w hy k i h
      ∙ ap (sub_mod q (at w (16 + i))) (ap (λ z. (z + linear 4 (λ k. at d (suc k)) i) % q) eb ∙ sym (symbol_high q (at d) i h) ∙ ap (λ z. symbol_at q z (at d) (16 + i)) (sym five))

  both_errors : (i : ℕ) → i < 2 ^ m → places_of e f i ≡ error q m (at d) (at w) i
  both_errors i h = go (dec_lt i 16)
    where
      go : Dec (i < 16) → places_of e f i ≡ error q m (at d) (at w) i
      go (yes j) = low_error i h j
      go (no j) =
          let p : i ≡ 16 + (i - 16) = omega arith in
          let five : m ≡ 5 = last_length m i high h (omega arith) in
          ap (places_of e f) p ∙ high_error five (i - 16) (omega (arith, h, ap (λ z. 2 ^ z) five)) ∙ ap (error q m (at d) (at w)) (sym p)

  pub verified : (wrong : ℕ) → wrong ≡ sum (2 ^ m) (λ i. differ 0 (places_of e f i)) → Verifies q m w d wrong (places_of e f)
  verified wrong g = record {
    candidate = o w hx hy;
    distance =
        g ∙ sum_ext (2 ^ m) _ _ (λ i k. ap (differ 0) (both_errors i k))
        ∙ sym (error_distance q m (at d) (at w) (alphabet_positive q r.alphabet) r.symbols.below);
    errors = both_errors;
  }

-- the votes in the errors, where f is the first of their two numbers: what a count of the margin requires
pub counted : (q m f first second wrong : ℕ) → f ≡ first → is_alphabet q ≡ true → LanesBelow q first → LanesBelow q second → 4 ≤ m → m ≤ 5
    → ((k : ℕ) → k < m → sum_from1 (q - 1) (votes q m k (places_of first second)) ≤ wrong) → 4 * wrong < 2 ^ m
    → (is_alphabet q ≡ true) × LanesBelow q f × LanesBelow q second × (4 ≤ m) × (m ≤ 5) × ((k : ℕ) → k < m → 4 * sum_from1 (q - 1) (votes q m k (places_of f second)) < 2 ^ m)
counted q m f first second wrong e al x y l h b near = rw e (al, x, y, l, h, λ k j. omega (arith, b k j, near))
