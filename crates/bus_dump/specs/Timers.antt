-- The timers of a sender at a bit time, before it decides there whether to start: which of them have elapsed, after what it has heard.
--   past, last   what it has heard, and the place of its last own start, as in `MayStart`
use Rattle.std.specs.Prelude.{ℕ, ◌+◌, ◌-◌, Bool, ◌&&◌, nat_le, List, length, Option}
use Rattle.std.specs.List.{list_any, range_with_len}
use Rattle.bus_timers.specs.declared.timing.Timing.{Timing}
use Rattle.bus_timers.specs.Timings.{due_place}
use Rattle.bus_timers.specs.MayStartTest.{is_quiet, is_sync, may_start}
pub use Rattle.bus_dump.specs.declared.sender_timers.Elapsed.{Elapsed}

-- Whether its transmit interval has elapsed.
abbrev pub has_interval : Timing → List Bool → Option ℕ → Bool
has_interval timing past last = nat_le (due_place timing last) (length past)

-- Whether its synchronization gap has elapsed since its last own start, somewhere.
abbrev pub has_synchronization : Timing → List Bool → Option ℕ → Bool
has_synchronization timing past last = list_any (is_sync timing.sg past last) (range_with_len 0 (length past + 1))

-- Whether its synchronization gap has elapsed with room for the terminal gap behind it, and the bus was quiet for a terminal gap.
abbrev pub has_gap : Timing → List Bool → Option ℕ → Bool
has_gap timing past last =
    list_any (is_sync timing.sg past last) (range_with_len 0 (length past + 1 - timing.tg))
    && nat_le timing.tg (length past)
    && is_quiet past (length past - timing.tg) (length past)

-- The timers of a sender; `may` is whether it may start.
abbrev pub elapsed_of : ℕ → Timing → List Bool → Option ℕ → Elapsed
elapsed_of terminal timing past last = record {
  terminal = terminal;
  interval = has_interval timing past last;
  synchronization = has_synchronization timing past last;
  gap = has_gap timing past last;
  may = may_start timing past last;
}
