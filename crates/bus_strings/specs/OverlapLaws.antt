-- What follows of overlaps and garbled entries.
-- The contract of `laws::neighbours_tell` says that each of these holds.
use Rattle.std.specs.Prelude.{◌≡◌, ℕ, ◌+◌, ◌<◌, ◌≤◌, ◌↔◌, true, false, ◌||◌, nat_lt, List, length, map, take, slice_get, Some}
use Rattle.std.specs.List.{list_any, zip, AllByRecursion}
use Rattle.std.specs.Option.{option_map_or}
use Rattle.bus_strings.specs.Messages.{Entry}
use Rattle.bus_strings.specs.Transmissions.{end_of, overlaps, garbled, marks, IsByMoment, IsAscending, IsClear}

-- A moment lies in the span of a transmission.
pub record IsWithin (x : Entry) (t : ℕ) : Type 0 where
  pub from : x.moment ≤ t
  pub to : t < end_of x

-- Two transmissions overlap exactly where some moment lies in the spans of both.
abbrev pub OverlapsMeet : Type 0
OverlapsMeet =
    (x y : Entry) → 0 < length x.message → 0 < length y.message
    → (overlaps x y ≡ true) ↔ ((t : ℕ) × IsWithin x t × IsWithin y t)

-- In a list ordered by moment, an entry is garbled exactly where an earlier entry ends behind its moment or the next one begins
-- before its end.
abbrev pub NeighboursTell : Type 0
NeighboursTell =
    (list : List Entry) (k : ℕ) (x : Entry) → IsByMoment list → AllByRecursion (λ y. 0 < length y.message) list → slice_get list k ≡ Some x
    → garbled list k ≡ (list_any (λ y. nat_lt x.moment (end_of y)) (take k list)
    || option_map_or (λ y. nat_lt y.moment (end_of x)) (slice_get list (k + 1)) false)

-- A list in strict order is ordered by moment.
abbrev pub AscendingIsByMoment : Type 0
AscendingIsByMoment = (list : List Entry) → IsAscending list → IsByMoment list

-- In a list without overlaps nothing is garbled.
abbrev pub ClearIsUnmarked : Type 0
ClearIsUnmarked = (list : List Entry) → IsClear list → zip list (marks list) ≡ map (λ x. (x, false)) list
