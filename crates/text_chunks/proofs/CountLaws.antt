-- How many bytes of a chunk are read. Assumes nothing.
use Prim.Native.Nat.{ℕ, suc, ◌+◌, ◌-◌, ◌≤◌, ◌<◌}
use mathlib.Core.Path.{◌≡◌, refl, ap, sym, ◌∙◌, subst}
use mathlib.Core.Bool.{Bool, true, false, cond}
use mathlib.Core.List.{List, [], ◌∷◌, ◌++◌}
use native.Mathlib.Nat.{zero-add, suc-add, sub-zero}
use native.Mathlib.Omega.{arith}
use borrow.Author.Tests.{eqb-false, lt-ltb, le-ltb}
use lib.Dec.{eqb, ltb}
use lib.ListN.{length, take, length-append}
use Rattle.text_lines.specs.Internal.{line_length}
use Rattle.text_lines.proofs.EndingLaws.{line_step}
use Rattle.text_chunks.specs.Chunks.{Reader, Progress, longer, step, step_text, fed, fed_text, fed_count}
use Rattle.text_chunks.proofs.StepLaws.{step_keep, text_keep}

module _ {S : Type 0} (R : Reader S) where
  -- none once the reading has ended, and none where there is no room for a line
  pub count_over : (p : Progress S) (left : ℕ) (bytes : List ℕ) → p.over ≡ true → fed_count R p left bytes ≡ 0
  unfolding fed_count
  count_over p left [] o = refl
  count_over p left (b ∷ bytes) o = rw o

  pub count_full : (p : Progress S) (left : ℕ) (bytes : List ℕ) → left < R.room → fed_count R p left bytes ≡ 0
  unfolding fed_count
  count_full p left [] h = refl
  count_full p left (b ∷ bytes) h = by p.over
    where
      by : (o : Bool) → cond o 0 (cond (ltb left R.room) 0 (suc (fed_count R (step R p b) (left - length (step_text R p b)) bytes))) ≡ 0
      by true = refl
      by false = rw (lt-ltb left R.room h)

  -- else one byte more
  pub count_next : (p : Progress S) (left b : ℕ) (bytes : List ℕ) → p.over ≡ false → R.room ≤ left
      → fed_count R p left (b ∷ bytes) ≡ suc (fed_count R (step R p b) (left - length (step_text R p b)) bytes)
  unfolding fed_count
  count_next p left b bytes o h = rw (o, le-ltb left R.room h)

  -- never more than there are
  pub count_le : (p : Progress S) (left : ℕ) (bytes : List ℕ) → fed_count R p left bytes ≤ length bytes
  unfolding fed_count
  count_le p left [] = omega arith
  count_le p left (b ∷ bytes) = by p.over (ltb left R.room) (count_le (step R p b) (left - length (step_text R p b)) bytes)
    where
      by : (o t : Bool) → fed_count R (step R p b) (left - length (step_text R p b)) bytes ≤ length bytes
          → cond o 0 (cond t 0 (suc (fed_count R (step R p b) (left - length (step_text R p b)) bytes))) ≤ suc (length bytes)
      by true t h = omega arith
      by false true h = omega arith
      by false false h = omega arith

  -- where all of the first bytes are read, the others follow
  pub count_append : (p : Progress S) (left : ℕ) (xs ys : List ℕ) → fed_count R p left xs ≡ length xs
      → fed_count R p left (xs ++ ys) ≡ length xs + fed_count R (fed R p xs) (left - length (fed_text R p xs)) ys
  unfolding fed_count fed fed_text
  count_append p left [] ys h = sym (zero-add _ ∙ ap (λ k. fed_count R p k ys) (sub-zero left))
  count_append p left (b ∷ xs) ys h = by p.over (ltb left R.room) h (count_append (step R p b) (left - length (step_text R p b)) xs ys)
    where
      next : ℕ
      next = left - length (step_text R p b)

      rest : next - length (fed_text R (step R p b) xs) ≡ left - length (step_text R p b ++ fed_text R (step R p b) xs)
      rest = omega (arith, length-append (step_text R p b) (fed_text R (step R p b) xs))

      by : (o t : Bool) → cond o 0 (cond t 0 (suc (fed_count R (step R p b) next xs))) ≡ suc (length xs)
          → (fed_count R (step R p b) next xs ≡ length xs
          → fed_count R (step R p b) next (xs ++ ys) ≡ length xs + fed_count R (fed R (step R p b) xs) (next - length (fed_text R (step R p b) xs)) ys)
          → cond o 0 (cond t 0 (suc (fed_count R (step R p b) next (xs ++ ys))))
          ≡ suc (length xs) + fed_count R (fed R (step R p b) xs) (left - length (step_text R p b ++ fed_text R (step R p b) xs)) ys
      by true t e more = absurd (omega (arith, e))
      by false true e more = absurd (omega (arith, e))
      by false false e more = ap suc (more (omega (arith, e)) ∙ ap (λ k. length xs + fed_count R (fed R (step R p b) xs) k ys) rest) ∙ sym (suc-add (length xs) _)

  -- the bytes before the first newline are all read
  pub count_within : (p : Progress S) (left : ℕ) (bytes : List ℕ) → p.over ≡ false → R.room ≤ left → fed_count R p left (take (line_length bytes) bytes) ≡ line_length bytes
  unfolding line_length fed_count longer
  count_within p left [] o h = refl
  count_within p left (b ∷ bytes) o h =
      subst (λ n. fed_count R p left (take n (b ∷ bytes)) ≡ n) (sym (line_step b bytes)) (by (eqb b 10) refl (count_within (longer p b) left bytes o h))
    where
      by : (t : Bool) → eqb b 10 ≡ t → fed_count R (longer p b) left (take (line_length bytes) bytes) ≡ line_length bytes
          → fed_count R p left (take (cond t 0 (suc (line_length bytes))) (b ∷ bytes)) ≡ cond t 0 (suc (line_length bytes))
      by true e more = refl
      by false e more =
          let d = eqb-false b 10 e in
          count_next p left b (take (line_length bytes) bytes) o h
          ∙ ap (λ q. suc (fed_count R q (left - length (step_text R p b)) (take (line_length bytes) bytes))) (step_keep R p b o d)
          ∙ ap (λ t. suc (fed_count R (longer p b) (left - length t) (take (line_length bytes) bytes))) (text_keep R p b o d)
          ∙ ap (λ k. suc (fed_count R (longer p b) k (take (line_length bytes) bytes))) (sub-zero left)
          ∙ ap suc more
