-- How the place from which the terminal gap counts moves, and that it tells when a terminal may start.
-- The contract of `laws::gap_place_moves` says that each of these holds; `GapStepLaws` and `GapStretchLaws` have the proofs, for the
-- crates above to cite.
use Rattle.std.specs.Prelude.{◌≡◌, ℕ, ◌+◌, ◌<◌, ◌≤◌, ◌↔◌, ◌++◌, ◌∷◌, [], Bool, true, false, List, length, replicate, Option, Some, None}
use Rattle.bus_timers.specs.declared.timing.Timing.{Timing}
use Rattle.bus_timers.specs.Timings.{due_place}
use Rattle.bus_timers.specs.MayStart.{MayStart}
use Rattle.bus_timers.specs.GapPlace.{GapFrom}

-- After the quiet of the settled start it is one synchronization gap from the beginning.
abbrev pub SettledPlace : Type 0
SettledPlace = (sg quiet : ℕ) → 0 < sg → sg ≤ quiet → GapFrom sg (replicate quiet false) None sg

-- An own start puts it one synchronization gap ahead.
abbrev pub StartedPlace : Type 0
StartedPlace = (sg : ℕ) (past : List Bool) → 0 < sg → GapFrom sg past (Some (length past)) (length past + sg)

-- A quiet bit time leaves it.
abbrev pub QuietPlace : Type 0
QuietPlace = (sg : ℕ) (past : List Bool) (last : Option ℕ) (g : ℕ) → 0 < sg → GapFrom sg past last g
    → GapFrom sg (past ++ false ∷ []) last g

-- Once the synchronization gap has elapsed, carrier puts it right behind.
abbrev pub CarrierPlace : Type 0
CarrierPlace =
    (sg : ℕ) (past : List Bool) (last : Option ℕ) (g : ℕ) → 0 < sg → GapFrom sg past last g → g ≤ length past
    → GapFrom sg (past ++ true ∷ []) last (length past + 1)

-- Before that, carrier puts it one synchronization gap behind.
abbrev pub WaitingCarrierPlace : Type 0
WaitingCarrierPlace =
    (sg : ℕ) (past : List Bool) (last : Option ℕ) (g : ℕ) → 0 < sg → GapFrom sg past last g → length past < g
    → GapFrom sg (past ++ true ∷ []) last (length past + 1 + sg)

-- There is one such place.
abbrev pub OnePlace : Type 0
OnePlace = (sg : ℕ) (past : List Bool) (last : Option ℕ) (g h : ℕ) → GapFrom sg past last g → GapFrom sg past last h → g ≡ h

-- A stretch of quiet bit times leaves it.
abbrev pub QuietsPlace : Type 0
QuietsPlace =
    (sg : ℕ) (past : List Bool) (last : Option ℕ) (g k : ℕ) → 0 < sg → GapFrom sg past last g
    → GapFrom sg (past ++ replicate k false) last g

-- A stretch of carrier does what its last bit time does.
abbrev pub CarriersPlace : Type 0
CarriersPlace =
    (sg : ℕ) (past : List Bool) (last : Option ℕ) (g k : ℕ) → 0 < sg → 0 < k → GapFrom sg past last g → g ≤ length past
    → GapFrom sg (past ++ replicate k true) last (length past + k)

-- Before the synchronization gap has elapsed too.
abbrev pub WaitingCarriersPlace : Type 0
WaitingCarriersPlace =
    (sg : ℕ) (past : List Bool) (last : Option ℕ) (g k : ℕ) → 0 < sg → 0 < k → GapFrom sg past last g → length past < g
    → GapFrom sg (past ++ replicate k true) last (length past + k + sg)

-- A terminal may start exactly where its transmit interval has elapsed and the past is a terminal gap longer than the place.
abbrev pub PlaceDecides : Type 0
PlaceDecides =
    (timing : Timing) (past : List Bool) (last : Option ℕ) (g : ℕ) → 0 < timing.sg → 0 < timing.tg → GapFrom timing.sg past last g
    → ((due_place timing last ≤ length past) × (g + timing.tg ≤ length past)) ↔ MayStart timing past last
