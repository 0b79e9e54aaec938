-- Whether two transmissions of a list overlap can be told.
use Rattle.std.proofs.Common.{◌≡◌, ℕ, suc, ◌<◌, ◌⊎◌, true, false, List, [], ◌∷◌, Some, inl, inr, arith, refl}
use Rattle.std.specs.Prelude.{slice_get}
use Rattle.std.specs.List.{AllByRecursion}
use Rattle.std.proofs.lemmas.Bool.{cases_Bool}
use Rattle.bus_strings.specs.Messages.{Entry}
use Rattle.bus_strings.specs.Transmissions.{overlaps}
use Rattle.bus_schedule.specs.Runs.{IsClear}
use Rattle.bus_schedule.specs.Settled.{HasOverlap}

record Meets (x : Entry) (list : List Entry) : Type 0 where
  place : ℕ
  y : Entry
  at : slice_get list place ≡ Some y
  overlap : overlaps x y ≡ true

one_meets : (x : Entry) (list : List Entry) → AllByRecursion (λ y. overlaps x y ≡ false) list ⊎ Meets x list
one_meets x [] = inl tt
one_meets x (y ∷ list) = elim (cases_Bool (overlaps x y)) [
  | inl meets ↦ inr (record { place = 0; y = y; at = refl; overlap = meets })
  | inr apart ↦ elim (one_meets x list) [
    | inl none ↦ inl (apart, none)
    | inr m ↦ inr (record { place = suc m.place; y = m.y; at = m.at; overlap = m.overlap })
  ]
]

pub clear_or_overlap : (list : List Entry) → IsClear list ⊎ HasOverlap list
clear_or_overlap [] = inl tt
clear_or_overlap (x ∷ list) = elim (one_meets x list) [
  | inr m ↦ inr (record {
    first = 0;
    second = suc m.place;
    behind = omega arith;
    one = x;
    other = m.y;
    one_at = refl;
    other_at = m.at;
    overlap = m.overlap;
  })
  | inl none ↦ elim (clear_or_overlap list) [
    | inl clear ↦ inl (none, clear)
    | inr o ↦ inr (record {
      first = suc o.first;
      second = suc o.second;
      behind = let k : o.first < o.second = o.behind in omega arith;
      one = o.one;
      other = o.other;
      one_at = o.one_at;
      other_at = o.other_at;
      overlap = o.overlap;
    })
  ]
]
