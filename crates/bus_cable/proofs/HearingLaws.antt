-- Laws of what a terminal hears in order, for the crates above to cite.
use Rattle.std.proofs.Common.{arith, ◌≡◌, inl, inr, ℕ, ◌<◌, Bool, true, false, cond, List, [], ◌∷◌, map, refl, sym, subst, ◌∙◌}
use Rattle.std.specs.List.{filter, AllByRecursion}
use Rattle.std.specs.Prelude.{nat_lt}
use Rattle.std.proofs.Math.Bool.{and_comm}
use Rattle.std.proofs.lemmas.Bool.{cases_lt}
use Rattle.bus_strings.specs.Messages.{Entry}
use Rattle.bus_strings.specs.Transmissions.{end_of, overlaps, Precedes, IsClear, IsAscending, IsTransmission}
use Rattle.bus_strings.proofs.ClearLaws.{unmarked}
use Rattle.bus_medium.specs.Delays.{Delays, cable, heard}
use Rattle.bus_cable.specs.Hearing.{is_before, put_in, in_order, hearing, is_of_another}
use Rattle.bus_cable.specs.HearingLaws.{HearsEach, HearsInOrder, ClearIsUngarbled}
use Rattle.bus_cable.specs.inside.Ranks.{rank}
use Rattle.bus_cable.proofs.HearingLemmas.{IsSmall, IsRanked, to_hearing, from_hearing, length-hearing, hearing_ranked, all_put_in, all_in_order, heard_small, small_of}

pub hears_each : HearsEach
hears_each delay list number = ((λ x. (to_hearing delay list number x, from_hearing delay list number x)), length-hearing delay list number)

-- ---- order
precedes : (x y : Entry) → IsSmall x → IsSmall y → rank x < rank y → Precedes x y
precedes x y s t less = elim (cases_lt x.moment y.moment) [
  | inl earlier ↦ inl earlier
  | inr not_earlier ↦ inr (omega (arith, s, t, less, not_earlier), omega (arith, s, t, less, not_earlier))
]

all_precede : (x : Entry) (ys : List Entry) → IsSmall x → AllByRecursion IsSmall ys → AllByRecursion (λ y. rank x < rank y) ys → AllByRecursion (Precedes x) ys
all_precede x [] s t h = tt
all_precede x (y ∷ ys) s t h = (precedes x y s t.0 h.0, all_precede x ys s t.1 h.1)

ascending_by : (xs : List Entry) → AllByRecursion IsSmall xs → IsRanked xs → IsAscending xs
ascending_by [] s h = tt
ascending_by (x ∷ xs) s h = (all_precede x xs s.0 s.1 h.0, ascending_by xs s.1 h.1)

hearing_small : (delay : Delays) (list : List Entry) (number : ℕ) → AllByRecursion IsTransmission list → AllByRecursion IsSmall (hearing delay list number)
unfolding hearing
hearing_small delay list number h = all_in_order IsSmall (heard delay number list) (heard_small delay number list (small_of list h))

pub hears_in_order : HearsInOrder
hears_in_order place list number order h = ascending_by (hearing (cable place) list number) (hearing_small (cable place) list number h) (hearing_ranked place list number order h)

-- ---- overlaps
either_way : (x y : Entry) → overlaps x y ≡ false → overlaps y x ≡ false
either_way x y h = and_comm (nat_lt y.moment (end_of x)) (nat_lt x.moment (end_of y)) ∙ h

clear_put_in : (x : Entry) (ys : List Entry) → AllByRecursion (λ y. overlaps x y ≡ false) ys → IsClear ys → IsClear (put_in x ys)
clear_put_in x [] h c = (tt, tt)
clear_put_in x (y ∷ ys) h c = by_test (is_before y x) (clear_put_in x ys h.1 c.1) where
  by_test : (t : Bool) → IsClear (put_in x ys) → IsClear (cond t (y ∷ put_in x ys) (x ∷ y ∷ ys))
  by_test true k = (all_put_in (λ z. overlaps y z ≡ false) x ys (either_way x y h.0) c.0, k)
  by_test false k = (h, c)

clear_in_order : (xs : List Entry) → IsClear xs → IsClear (in_order xs)
clear_in_order [] c = tt
clear_in_order (x ∷ xs) c = clear_put_in x (in_order xs) (all_in_order (λ y. overlaps x y ≡ false) xs c.0) (clear_in_order xs c.1)

pub hearing_clear : (delay : Delays) (list : List Entry) (number : ℕ) → IsClear (heard delay number list) → IsClear (hearing delay list number)
unfolding hearing
hearing_clear delay list number c = clear_in_order (heard delay number list) c

abbrev Unmarked : List (Entry × Bool) → Type 0
Unmarked pairs = AllByRecursion (λ (marked : Entry × Bool). marked.1 ≡ false) pairs

filter_unmarked : (p : Entry × Bool → Bool) (xs : List Entry) → Unmarked (filter p (map (λ x. (x, false)) xs))
filter_unmarked p [] = tt
filter_unmarked p (x ∷ xs) = by_test (p (x, false)) (filter_unmarked p xs) where
  by_test : (t : Bool) → Unmarked (filter p (map (λ x. (x, false)) xs)) → Unmarked (cond t ((x, false) ∷ filter p (map (λ x. (x, false)) xs)) (filter p (map (λ x. (x, false)) xs)))
  by_test true k = (refl, k)
  by_test false k = k

pub clear_is_ungarbled : ClearIsUngarbled
clear_is_ungarbled delay list number c =
    subst (λ (pairs : List (Entry × Bool)). Unmarked (filter (is_of_another number) pairs)) (sym (unmarked (hearing delay list number) (hearing_clear delay list number c)))
    (filter_unmarked (is_of_another number) (hearing delay list number))
