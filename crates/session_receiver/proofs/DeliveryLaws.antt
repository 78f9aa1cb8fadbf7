-- The values that Receive answers tell the delivery. Assumes nothing.
use Prim.Native.Nat.{ℕ}
use mathlib.Core.Path.{◌≡◌}
use Rattle.std.specs.Prelude.{Option, Some, None}
use Rattle.session_receiver.specs.declared.Delivery.{Delivery}
use Rattle.session_receiver.specs.Receiving.{zone_values, delivery_values}

abbrev parts : Option ℕ → ℕ → ℕ → ℕ → Delivery
parts zone wrong margin time = record { zone = zone; wrong = wrong; margin = margin; time = time }

parts_told : (z z' : Option ℕ) (w g t w' g' t' : ℕ) → delivery_values (parts z w g t) ≡ delivery_values (parts z' w' g' t') → parts z w g t ≡ parts z' w' g' t'
unfolding zone_values delivery_values
parts_told (Some d) (Some d') w g t w' g' t' e = cc
parts_told (Some d) None w g t w' g' t' e = cc
parts_told None (Some d') w g t w' g' t' e = cc
parts_told None None w g t w' g' t' e = cc

-- deliveries with the same values are the same
pub delivery_told : (d e : Delivery) → delivery_values d ≡ delivery_values e → d ≡ e
delivery_told d e h = parts_told d.zone e.zone d.wrong d.margin d.time e.wrong e.margin e.time h
