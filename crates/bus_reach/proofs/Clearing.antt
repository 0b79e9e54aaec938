-- What terminals hear of transmissions that stand far enough apart doesn't overlap.
use Rattle.std.proofs.Common.{◌≡◌, ℕ, ◌+◌, ◌≤◌, false, ltb, List, [], ◌∷◌, map, inl, inr, refl, arith}
use Rattle.std.specs.List.{AllByRecursion}
use Rattle.std.proofs.lemmas.Bool.{le-ltb, and_right}
use Rattle.bus_strings.specs.Members.{In}
use Rattle.bus_strings.specs.Messages.{Entry}
use Rattle.bus_strings.specs.Transmissions.{end_of, overlaps, IsOrdered}
use Rattle.bus_schedule.specs.Runs.{IsClear}
use Rattle.bus_medium.specs.Delays.{Delays, later, heard}

-- what holds of entries holds of what a function makes of them
all_of_map : (P Q : Entry → Type 0) (f : Entry → Entry) (xs : List Entry) → ((y : Entry) → In y xs → P y → Q (f y)) → AllByRecursion P xs → AllByRecursion Q (map f xs)
all_of_map P Q f [] h a = tt
all_of_map P Q f (x ∷ xs) h a = (h x (inl refl) a.0, all_of_map P Q f xs (λ y i. h y (inr i)) a.1)

ordered_of_map : (R S : Entry → Entry → Type 0) (f : Entry → Entry) (xs : List Entry) → ((x y : Entry) → In x xs → R x y → S (f x) (f y)) → IsOrdered R xs → IsOrdered S (map f xs)
ordered_of_map R S f [] h o = tt
ordered_of_map R S f (x ∷ xs) h o = (all_of_map (R x) (S (f x)) f xs (λ y i r. h x y (inl refl) r) o.0, ordered_of_map R S f xs (λ y z i r. h y z (inr i) r) o.1)

pub heard_clear : (delay : Delays) (most number : ℕ) (list : List Entry) → ((x : Entry) → In x list → delay x number ≤ most)
    → IsOrdered (λ x y. end_of x + most ≤ y.moment) list → IsClear (heard delay number list)
heard_clear delay most number list within laid =
    ordered_of_map (λ x y. end_of x + most ≤ y.moment) (λ x y. overlaps x y ≡ false) (λ x. later (delay x number) x) list (λ x y i apart.
    let d : delay x number ≤ most = within x i in
    and_right (ltb (x.moment + delay x number) (end_of (later (delay y number) y))) (ltb (y.moment + delay y number) (end_of (later (delay x number) x)))
    (le-ltb (y.moment + delay y number) (end_of (later (delay x number) x)) (omega arith))) laid
