-- When a terminal may start, as a test that computes. It tries every place of the past.
use Rattle.std.specs.Prelude.{◌≡◌, ℕ, ◌+◌, ◌-◌, ◌↔◌, Bool, true, not, ◌&&◌, nat_le, List, length, slice_range, Option, Some, None}
use Rattle.std.specs.List.{list_any, list_all, range_with_len}
use Rattle.bus_timers.specs.declared.timing.Timing.{Timing}
use Rattle.bus_timers.specs.Timings.{due_place}
use Rattle.bus_timers.specs.MayStart.{MayStart}

-- Whether no bit time of the past from place i to place j, which lies in it, has carrier.
abbrev pub is_quiet : List Bool → ℕ → ℕ → Bool
is_quiet past i j = list_all (λ carrier. not carrier) (slice_range past i j)

-- Whether a place isn't before the last own start.
abbrev pub is_behind : Option ℕ → ℕ → Bool
is_behind None place = true
is_behind (Some start) place = nat_le start place

-- Whether the synchronization gap has elapsed at place e.
abbrev pub is_sync : ℕ → List Bool → Option ℕ → ℕ → Bool
is_sync sg past last e = nat_le sg e && is_quiet past (e - sg) e && is_behind last (e - sg)

-- Whether the terminal may start at the end of this past.
abbrev pub may_start : Timing → List Bool → Option ℕ → Bool
may_start timing past last =
    nat_le (due_place timing last) (length past)
    && list_any (λ e. is_sync timing.sg past last e) (range_with_len 0 (length past + 1 - timing.tg))
    && nat_le timing.tg (length past)
    && is_quiet past (length past - timing.tg) (length past)

-- The test is the definition.
abbrev pub TestDecides : Type 0
TestDecides =
    (timing : Timing) (past : List Bool) (last : Option ℕ)
    → (may_start timing past last ≡ true) ↔ MayStart timing past last
