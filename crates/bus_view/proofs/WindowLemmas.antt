-- The window between two moments.
use Rattle.std.specs.Prelude.{◌≡◌, ℕ, ◌<◌, ◌≤◌, ◌↔◌, Bool, true, false, ◌&&◌, nat_lt, nat_le, Option, Some, None, IfSome, IsSome, Ok, Err}
use Rattle.std.proofs.Common.{arith, cond, refl, sym, ap, ◌∙◌}
use Rattle.std.proofs.lemmas.Bool.Decides.{nat_tests}
use Rattle.bus_strings.specs.Limits.{horizon_limit}
use Rattle.bus_trace.specs.Windows.{Window, IsWindow}
use Rattle.bus_view.specs.Forms.{no_window, window_bits}

both : (a b : Bool) → a ≡ true → b ≡ true → (a && b) ≡ true
both true true p q = refl
both false b p q = absurd cc
both true false p q = absurd cc

-- numbers of a window ask for it
pub is_window : (from to : ℕ) → IsWindow (record { from = from; to = to }) → window_bits from to ≡ Ok (Some (record { from = from; to = to }))
is_window from to is =
    let rises : nat_lt from to ≡ true = (let p = is.some in grind (arith, nat_tests)) in
    let within : nat_le to horizon_limit ≡ true = (let q = is.within in grind (arith, nat_tests)) in
    ap (λ b. cond b (Ok (Some (record { from = from; to = to }))) (Err no_window)) (both (nat_lt from to) (nat_le to horizon_limit) rises within)
