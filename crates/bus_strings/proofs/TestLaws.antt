-- A law of tests that std does not name.
use Rattle.std.proofs.Common.{◌≡◌, Bool, true, false, ◌||◌, refl}

-- what never holds adds nothing
pub or_false : (b : Bool) → (b || false) ≡ b
or_false true = refl
or_false false = refl
