-- What was recorded on a cable has no mark.
use Rattle.std.proofs.Common.{◌≡◌, List, [], ◌∷◌, map, fold, None, refl}
use Rattle.bus_shapes.specs.declared.sent.Sent.{Sent}
use Rattle.bus_cycles.specs.Cuts.{Seen}
use Rattle.bus_cycles.specs.MarkLaws.{CableIsUnmarked}
use Rattle.bus_cycles.specs.Rows.{Cycle, Extent, extent_of, rows_of}
use Rattle.bus_cycles.specs.Surveys.{Survey, nothing, told_of, with_row}

-- where no breach is told, no row is marked
still_none : (cycle : Cycle) (seen : Seen) (survey : Survey) (extents : List Extent) → survey.marked ≡ None
    → (fold (with_row cycle seen None) survey extents).marked ≡ None
still_none cycle seen survey [] h = h
still_none cycle seen survey (x ∷ xs) h = still_none cycle seen (with_row cycle seen None survey x) xs h

pub none_marked : (cycle : Cycle) (seen : Seen) (sents : List Sent) → (told_of cycle seen None sents).marked ≡ None
none_marked cycle seen sents = still_none cycle seen (nothing cycle) (map extent_of (rows_of cycle sents)) refl

-- so the texts are the same: neither lists a fault
pub cable_unmarked : CableIsUnmarked
cable_unmarked frame window verdict table trace garbled collided = refl
