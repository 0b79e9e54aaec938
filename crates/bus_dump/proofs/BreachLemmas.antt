-- The wire of the breach is 1 at its moment alone.
use Rattle.std.proofs.Common.{◌≡◌, ℕ, Bool, true, Option, Some, None, eqb, ap}
use Rattle.std.specs.Prelude.{◌↔◌}
use Rattle.std.proofs.lemmas.Bool.{eq-eqb, eqb-true}
use Rattle.bus_dump.specs.Scenes.{is_breach}
use Rattle.bus_dump.specs.Signals.{Bit}

same_bit : (a b : Bool) → Bit a ≡ Bit b → a ≡ b
same_bit a b h = cc

same_moment : (m t : ℕ) → Some m ≡ Some t → m ≡ t
same_moment m t h = cc

pub breach_told : (breach : Option ℕ) (t : ℕ) → (Bit (is_breach breach t) ≡ Bit true) ↔ (breach ≡ Some t)
breach_told None t = (λ h. absurd cc, λ h. absurd cc)
breach_told (Some m) t = (
  λ h. ap Some (eqb-true m t (same_bit (eqb m t) true h)),
  λ h. ap Bit (eq-eqb m t (same_moment m t h)),
)
