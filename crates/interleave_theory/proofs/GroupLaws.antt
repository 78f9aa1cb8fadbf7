-- What the questions about a group say, and what both calls leave. Assumes nothing.
use Prim.Native.Nat.{ℕ, ◌*◌, ◌^◌, ◌≤◌}
use mathlib.Core.Path.{◌≡◌, refl, ap, ap₂, sym, ◌∙◌}
use mathlib.Core.Logic.{◌≢◌}
use mathlib.Core.Bool.{true, ◌&&◌}
use mathlib.Core.List.{List}
use native.Mathlib.Nat.{mul_comm, mul-le-mul_right}
use native.Mathlib.Omega.{arith}
use lib.Dec.{leb}
use lib.Pow.{pow_mono}
use lib.ListN.{length}
use borrow.Author.Tests.{le-leb, leb-true, eqb-true}
use Rattle.code_theory.specs.Question.{is_alphabet, is_variables, all_below, after}
use Rattle.code_theory.proofs.QuestionLaws.{and_true, ask_yes, after_yes, after_no, variables_bounds}
use Rattle.interleave_theory.specs.Place.{transposed, rearranged, put_back}
use Rattle.interleave_theory.specs.Group.{is_group, is_group_size, group_refusal, rearrange_target, put_back_target}
use Rattle.interleave_theory.specs.Internal.{slices_refusal, moved_target, Checked}
use Rattle.interleave_theory.proofs.RefusalLaws.{slices_asked, refused_none}
use Rattle.interleave_theory.proofs.PlaceLaws.{transposed_length, transposed_below, rearranged_undone, put_back_undone}

group_bounds : (count : ℕ) → is_group count ≡ true → (1 ≤ count) × (count ≤ 16)
unfolding is_group
group_bounds count h = let (a, b) = and_true (leb 1 count) (leb count 16) h in (leb-true 1 count a, leb-true count 16 b)

pub group_yes : (count : ℕ) → 1 ≤ count → count ≤ 16 → is_group count ≡ true
unfolding is_group
group_yes count h k = ap₂ ◌&&◌ (le-leb 1 count h) (le-leb count 16 k)

group_size : (m count : ℕ) (x : List ℕ) → is_group_size m count x ≡ true → length x ≡ count * 2 ^ m
unfolding is_group_size
group_size m count x h = eqb-true (length x) (count * 2 ^ m) h

-- words of sixteen places are words
pub sixteen_places : is_variables 4 ≡ true
unfolding is_variables
sixteen_places = refl

-- no group is longer than 4096 symbols
pub group_limit : (m count : ℕ) → is_variables m ≡ true → is_group count ≡ true → count * 2 ^ m ≤ 4096
group_limit m count v g =
    let p : 2 ^ m ≤ 256 = pow_mono {i = m} {j = 8} (variables_bounds m v).1 in
    omega (arith, p, mul-le-mul_right {m = count} {n = 16} (2 ^ m) (group_bounds count g).1)

-- a group and a slice for it that pass every question
pub record Passes (q m count : ℕ) (x t : List ℕ) : Type 0 where
  pub alphabet : is_alphabet q ≡ true
  pub variables : is_variables m ≡ true
  pub group : is_group count ≡ true
  pub source : length x ≡ count * 2 ^ m
  pub target : length t ≡ count * 2 ^ m
  pub below : all_below q x ≡ true

pub passes : (q m count : ℕ) (source target : List ℕ) → group_refusal q m count source target ≡ 0 → Passes q m count source target
unfolding group_refusal
passes q m count source target h =
    let (a, h1) = ask_yes (is_alphabet q) 0 _ h in
    let (b, h2) = ask_yes (is_variables m) 1 _ h1 in
    let (c, h3) = ask_yes (is_group count) 13 _ h2 in
    let (d, h4) = ask_yes (is_group_size m count source) 6 _ h3 in
    let (e, h5) = ask_yes (is_group_size m count target) 6 _ h4 in
    let (f, _) = ask_yes (all_below q source) 7 0 h5 in
    record { alphabet = a; variables = b; group = c; source = group_size m count source d; target = group_size m count target e; below = f }

pub not_refused : (q m count : ℕ) (source target : List ℕ) → Passes q m count source target → group_refusal q m count source target ≡ 0
not_refused q m count source target g =
    sym (slices_asked q m count source target g.alphabet g.variables g.group)
    ∙ sym (refused_none q (count * 2 ^ m) source target g.source g.target g.below)

-- what the two calls leave
module _ (q m count : ℕ) (source target : List ℕ) where
  module _ (number : ℕ) (e : number ≡ group_refusal q m count source target) (n : number ≢ 0) where
    -- a refused call leaves the target as it was
    pub rearrange_kept : target ≡ rearrange_target q m count source target
    unfolding rearrange_target
    rearrange_kept = sym (after_no _ _ target (λ z. n (e ∙ z)))

    pub put_back_kept : target ≡ put_back_target q m count source target
    unfolding put_back_target
    put_back_kept = sym (after_no _ _ target (λ z. n (e ∙ z)))

  pub rearrange_moves : moved_target count (2 ^ m) q m count source target ≡ rearrange_target q m count source target
  unfolding moved_target rearrange_target
  rearrange_moves = refl

  pub put_back_moves : moved_target (2 ^ m) count q m count source target ≡ put_back_target q m count source target
  unfolding moved_target put_back_target
  put_back_moves = refl

  module _ (z : group_refusal q m count source target ≡ 0) where
    pub rearrange_is : rearrange_target q m count source target ≡ rearranged count (2 ^ m) source
    unfolding rearrange_target
    rearrange_is = after_yes _ _ target z

    pub put_back_is : put_back_target q m count source target ≡ put_back count (2 ^ m) source
    unfolding put_back_target
    put_back_is = after_yes _ _ target z

-- what a way of moving a group answers and leaves is what the call does
pub moved_checked : (q m count a b : ℕ) (source target : List ℕ) → is_alphabet q ≡ true → is_variables m ≡ true → is_group count ≡ true → a * b ≡ count * 2 ^ m
    → (k : ℕ) (y : List ℕ) → Checked q a b source target k y → (k ≡ group_refusal q m count source target) × (y ≡ moved_target a b q m count source target)
unfolding moved_target
moved_checked q m count a b source target alphabet variables group size k y c =
    let e = c.number ∙ ap (λ n. slices_refusal q n source target) size ∙ slices_asked q m count source target alphabet variables group in
    (e, c.target ∙ ap (λ n. after n (transposed a b source) target) e)

-- PUT BACK UNDOES REARRANGE: a call of Put back with what an accepted Rearrange left is accepted, and leaves the first source
pub put_back_undoes : (q m count : ℕ) (x t u : List ℕ) → group_refusal q m count x t ≡ 0 → length u ≡ count * 2 ^ m
    → (group_refusal q m count (rearrange_target q m count x t) u ≡ 0) × (put_back_target q m count (rearrange_target q m count x t) u ≡ x)
put_back_undoes q m count x t u h n =
    let g = passes q m count x t h in
    let e = rearrange_is q m count x t h in
    let y : List ℕ = rearranged count (2 ^ m) x in
    let z : group_refusal q m count y u ≡ 0 = not_refused q m count y u (record {
      alphabet = g.alphabet;
      variables = g.variables;
      group = g.group;
      source = transposed_length count (2 ^ m) x;
      target = n;
      below = transposed_below q count (2 ^ m) x g.source g.below;
    }) in (
      ap (λ l. group_refusal q m count l u) e ∙ z,
      ap (λ l. put_back_target q m count l u) e ∙ put_back_is q m count y u z ∙ rearranged_undone count (2 ^ m) x g.source,
    )

-- AND REARRANGE UNDOES PUT BACK
pub rearrange_undoes : (q m count : ℕ) (y t u : List ℕ) → group_refusal q m count y t ≡ 0 → length u ≡ count * 2 ^ m
    → (group_refusal q m count (put_back_target q m count y t) u ≡ 0) × (rearrange_target q m count (put_back_target q m count y t) u ≡ y)
rearrange_undoes q m count y t u h n =
    let g = passes q m count y t h in
    let e = put_back_is q m count y t h in
    let c = mul_comm count (2 ^ m) in
    let x : List ℕ = put_back count (2 ^ m) y in
    let z : group_refusal q m count x u ≡ 0 = not_refused q m count x u (record {
      alphabet = g.alphabet;
      variables = g.variables;
      group = g.group;
      source = transposed_length (2 ^ m) count y ∙ sym c;
      target = n;
      below = transposed_below q (2 ^ m) count y (g.source ∙ c) g.below;
    }) in (
      ap (λ l. group_refusal q m count l u) e ∙ z,
      ap (λ l. rearrange_target q m count l u) e ∙ rearrange_is q m count x u z ∙ put_back_undone count (2 ^ m) y g.source,
    )
