-- The steps and the marks of axes.
use Rattle.std.proofs.Common.{◌≡◌, ℕ, ◌<◌, ◌≤◌, Bool, true, false, cond, List, [], ◌∷◌, Option, Some, arith, refl}
use Rattle.std.specs.Prelude.{◌&&◌, nat_lt, nat_le}
use Rattle.std.specs.List.{find, list_all}
use Rattle.std.specs.Option.{unwrap_or}
use Rattle.std.proofs.lemmas.Bool.{and_parts, leb-true, ltb-true}
use Rattle.bus_pen.specs.Axes.{rounds, most_apart}

-- ---- steps
pub record IsRound (number : ℕ) : Type 0 where
  pub some : 0 < number
  pub low : number ≤ most_apart

abbrev is_round : ℕ → Bool
is_round number = nat_lt 0 number && nat_le number most_apart

round : (n : ℕ) → is_round n ≡ true → IsRound n
round n h =
    let parts = and_parts (nat_lt 0 n) (nat_le n most_apart) h in
    record { some = ltb-true 0 n parts.0; low = leb-true n most_apart parts.1 }

first : (b : Bool) (x : ℕ) (o : Option ℕ) → is_round x ≡ true → IsRound (unwrap_or o most_apart) → IsRound (unwrap_or (cond b (Some x) o) most_apart)
first true x o here there = round x here
first false x o here there = there

found : (p : ℕ → Bool) (xs : List ℕ) → list_all is_round xs ≡ true → IsRound (unwrap_or (find p xs) most_apart)
found p [] h = record { some = omega arith; low = omega arith }
found p (x ∷ xs) h =
    let parts = and_parts (is_round x) (list_all is_round xs) h in
    first (p x) x (find p xs) parts.0 (found p xs parts.1)

pub step_is_round : (p : ℕ → Bool) → IsRound (unwrap_or (find p rounds) most_apart)
step_is_round p = found p rounds refl
