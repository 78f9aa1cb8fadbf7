-- Laws of lists: zeros, and what a copy leaves. Assumes nothing.
use Prim.Native.Nat.{ℕ, zero, suc, ◌≤◌}
use mathlib.Core.Path.{◌≡◌, refl, ap, ◌∙◌}
use mathlib.Core.List.{List, [], ◌∷◌, ◌++◌, append-nil}
use lib.ListN.{length, take, drop}
use lib.Seq.{length-take-le, take-length, drop-length}
use Rattle.code_theory.specs.Sum.{at}

-- n zeros, as a new array holds them
unfoldable pub zeros : ℕ → List ℕ
zeros zero = []
zeros (suc n) = 0 ∷ zeros n

pub zeros_at : (n i : ℕ) → at (zeros n) i ≡ 0
unfolding zeros
zeros_at zero i = refl
zeros_at (suc n) zero = refl
zeros_at (suc n) (suc i) = zeros_at n i

-- A COPY of the front of `from` that is as long as `to` leaves nothing of `to`
pub front_copied : (from to front after : List ℕ) → length to ≤ length from → front ≡ take (length to) from
    → after ≡ take (length front) front ++ drop (length front) to → after ≡ take (length to) from
front_copied from to front after h f e =
    let n : length front ≡ length to = ap length f ∙ length-take-le (length to) from h in
    e ∙ ap (λ l. l ++ drop (length front) to) (take-length front)
    ∙ ap (λ k. front ++ drop k to) n
    ∙ ap (λ l. front ++ l) (drop-length to)
    ∙ append-nil front
    ∙ f
