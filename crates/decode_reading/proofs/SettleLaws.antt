-- From the one message that can be near a word to the word's reading. Assumes nothing.
use Prim.Native.Nat.{ℕ, suc, ◌*◌, ◌^◌, ◌≤◌, ◌<◌}
use mathlib.Core.Path.{◌≡◌, refl, ap, sym, ◌∙◌, subst}
use mathlib.Core.List.{List}
use native.Mathlib.Omega.{arith}
use lib.ListN.{take, length-take}
use lib.Seq.{get_or-take}
use Rattle.std.specs.Prelude.{Option, Some, None}
use Rattle.code_theory.specs.Sum.{at}
use Rattle.code_theory.specs.Code.{Symbols}
use Rattle.code_theory.specs.Near.{distance, Near}
use Rattle.code_theory.specs.Margin.{margin}
use Rattle.code_theory.specs.Nearest.{near_distance, near_margin}
use Rattle.code_theory.proofs.CodeLaws.{distance_ext}
use Rattle.code_theory.proofs.MarginLaws.{margin_ext}
use Rattle.code_theory.proofs.NearestLaws.{Reads, only_read}
use Rattle.decode_reading.specs.Internal.{Measured, Settled}
use Rattle.decode_reading.specs.declared.Reading.{Reading}

module _ (q m : ℕ) (w d : List ℕ) (wrong : ℕ) (c : Measured q m w d wrong) where
  -- the message
  abbrev t : List ℕ
  t = take (suc m) d

  same : (k : ℕ) → k < suc m → at d k ≡ at t k
  same k l = sym (get_or-take (suc m) d k 0 l)

  symbols : Symbols q (suc m) t
  symbols = record { size = omega (arith, length-take (suc m) d, c.size); below = λ k l. rw (← same k l) (c.below k l) }

  reads : Reads q m w t
  reads = only_read q m w t symbols (λ s h n k l. sym (c.only (at s) h.below n k l) ∙ same k l)

  its_distance : wrong ≡ distance q m (at t) (at w)
  its_distance = c.distance ∙ distance_ext q m (at d) (at t) (at w) (at w) same (λ i l. refl)

  -- THE READING: the message is read where it is near
  pub settled_read : (s₀ s : List ℕ) (least : ℕ) → 4 * wrong < 2 ^ m → s ≡ take (suc m) d → least ≡ margin q m (at d) (at w)
      → Settled q m w s₀ s (Some (record { wrong = wrong; margin = least }))
  unfolding Settled near_distance near_margin
  settled_read s₀ s least l f g =
      let n : Near q m (at t) (at w) = omega (arith, its_distance) in
      let (a, b) = reads.near n in (
        a,
        b ∙ sym f,
        ap (λ x. distance q m (at x) (at w)) b ∙ sym its_distance,
        ap (λ x. margin q m (at x) (at w)) b ∙ sym (margin_ext q m (at d) (at t) (at w) same) ∙ sym g,
      )

  -- and else the word is doubtful
  pub settled_doubtful : (s₀ : List ℕ) → 2 ^ m ≤ 4 * wrong → Settled q m w s₀ s₀ None
  unfolding Settled
  settled_doubtful s₀ l = (reads.far (λ n. absurd (omega (arith, its_distance, n))), refl)
