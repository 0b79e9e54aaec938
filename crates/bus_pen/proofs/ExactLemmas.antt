-- The numbers at the marks of an axis are exact.
use Rattle.std.proofs.Common.{◌≡◌, ℕ, ◌*◌, ◌/◌, ◌<◌, Bool, true, false, cond, eqb, leb, List, [], ◌∷◌, Option, Some, arith, refl, sym, ap, ◌∙◌}
use Rattle.std.specs.List.{find, list_all}
use Rattle.std.specs.Option.{unwrap_or}
use Rattle.std.proofs.lemmas.Bool.{and_parts, eqb-true}
use Rattle.std.proofs.Math.Nat.{mul-div_cancel}
use Rattle.bus_pen.specs.Axes.{BitTimes, Microseconds, is_wide, most_apart, rounds, time_unit}
use Rattle.bus_pen.specs.Laws.{MarksAreExact}

-- whole units
abbrev IsFine : ℕ → Type 0
IsFine n = n / time_unit n * time_unit n ≡ n

abbrev is_fine : ℕ → Bool
is_fine n = eqb (n / time_unit n * time_unit n) n

fine : (n : ℕ) → is_fine n ≡ true → IsFine n
fine n h = eqb-true (n / time_unit n * time_unit n) n h

first : (b : Bool) (x : ℕ) (o : Option ℕ) → is_fine x ≡ true → IsFine (unwrap_or o most_apart) → IsFine (unwrap_or (cond b (Some x) o) most_apart)
first true x o here there = fine x here
first false x o here there = there

found : (p : ℕ → Bool) (xs : List ℕ) → list_all is_fine xs ≡ true → IsFine (unwrap_or (find p xs) most_apart)
found p [] h = fine most_apart refl
found p (x ∷ xs) h =
    let parts = and_parts (is_fine x) (list_all is_fine xs) h in
    first (p x) x (find p xs) parts.0 (found p xs parts.1)

unit_some : (n : ℕ) → 0 < time_unit n
unit_some n = by_case (leb 1000000 n) (leb 1000 n) where
  by_case : (a b : Bool) → 0 < cond a 1000000 (cond b 1000 1)
  by_case true b = omega arith
  by_case false true = omega arith
  by_case false false = omega arith

whole_units : (k r u m : ℕ) → 0 < u → m * u ≡ r → k * (r * 2) / (2 * u) * (2 * u) ≡ k * (r * 2)
whole_units k r u m some e =
    let all : k * (r * 2) ≡ k * m * (2 * u) = (let x : m * u ≡ r = e in rw (sym x) (grind arith)) in
    ap (λ n. n / (2 * u) * (2 * u)) all
    ∙ ap (λ q. q * (2 * u)) (mul-div_cancel (k * m) (omega arith))
    ∙ sym all

pub exact : MarksAreExact
exact scale BitTimes k = grind arith
exact scale Microseconds k =
    let r : ℕ = unwrap_or (find (is_wide scale) rounds) most_apart in
    let half : r * 2 / 2 ≡ r = omega arith in
    let here : IsFine r = found (is_wide scale) rounds refl in
    ap (λ h. k * (r * 2) / (2 * time_unit h) * (2 * time_unit h)) half
    ∙ whole_units k r (time_unit r) (r / time_unit r) (unit_some r) here
