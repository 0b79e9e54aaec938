-- Numbers that terminals may have, each once, are no more than 128.
use Rattle.std.proofs.Common.{arith, ◌≡◌, ℕ, ◌<◌, ◌≤◌, Bool, true, false, ◌||◌, nat_le, nat_eq, List, [], ◌∷◌, length, refl}
use Rattle.std.specs.List.{list_all, list_any, IsDistinct, AllByRecursion}
use Rattle.std.proofs.lemmas.Bool.{and_parts, and_from}
use Rattle.std.proofs.lemmas.Bool.Decides.{nat_tests}
use Rattle.std.proofs.lemmas.Map.Steps.{length-le_from_distinct_below}
use Rattle.bus_table.specs.Tables.{Sender}
use Rattle.bus_table.specs.Ranges.{is_number, is_sender}
use Rattle.bus_table.specs.Whole.{sender_numbers}

pub number_bounds : (n : ℕ) → is_number n ≡ true → (1 ≤ n) × (n ≤ 128)
number_bounds n h =
    let p = and_parts (nat_le 1 n) _ h in
    (grind (arith, nat_tests, p.0), grind (arith, nat_tests, p.1))

no_zero : (ns : List ℕ) → list_all is_number ns ≡ true → AllByRecursion (λ n. nat_eq 0 n ≡ false) ns
no_zero [] h = tt
no_zero (n ∷ ns) h =
    let p = and_parts (is_number n) _ h in
    let least = (number_bounds n p.0).0 in
    (grind (arith, nat_tests), no_zero ns p.1)

below : (ns : List ℕ) (q : ℕ) → list_all is_number ns ≡ true → list_any (nat_eq q) ns ≡ true → q < 129
below [] q h k = absurd cc
below (n ∷ ns) q h k =
    let p = and_parts (is_number n) _ h in
    by_test (nat_eq q n) refl (number_bounds n p.0).1 (below ns q p.1) k where
      by_test : (t : Bool) → nat_eq q n ≡ t → n ≤ 128 → (list_any (nat_eq q) ns ≡ true → q < 129) → (t || list_any (nat_eq q) ns) ≡ true → q < 129
      by_test true e most later w = let same : q ≡ n = grind (arith, nat_tests) in omega arith
      by_test false e most later w = later w

pub few_numbers : (ns : List ℕ) → list_all is_number ns ≡ true → IsDistinct nat_eq ns → length ns ≤ 128
unfolding IsDistinct
few_numbers ns h d =
    let bound : length (0 ∷ ns) ≤ 129 = length-le_from_distinct_below (0 ∷ ns) 129 (no_zero ns h, d) (λ q k. by_test q (nat_eq q 0) refl k) in
    omega arith where
      by_test : (q : ℕ) (t : Bool) → nat_eq q 0 ≡ t → (t || list_any (nat_eq q) ns) ≡ true → q < 129
      by_test q true e w = grind (arith, nat_tests)
      by_test q false e w = below ns q h w

-- the numbers of senders in their ranges
pub senders_right : (senders : List Sender) → list_all is_sender senders ≡ true → list_all is_number (sender_numbers senders) ≡ true
senders_right [] h = refl
senders_right (s ∷ senders) h =
    let p = and_parts (is_sender s) _ h in
    and_from (is_number s.number) _ (and_parts (is_number s.number) _ p.0).0 (senders_right senders p.1)
