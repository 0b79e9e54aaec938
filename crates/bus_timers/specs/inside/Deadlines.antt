-- What the moments of a core of deadlines stand for. Each is a place in the past, as in `MayStart`.
use Rattle.std.specs.Prelude.{◌≡◌, ℕ, ◌-◌, ◌^◌, Bool, List, length, Option}
use Rattle.bus_timers.specs.declared.timing.Timing.{Timing}
use Rattle.bus_timers.specs.Timings.{IsSound, due_place}
use Rattle.bus_timers.specs.GapPlace.{GapFrom}

-- The past ends at now, the transmit interval elapses at due, and the terminal gap counts from gap_from.
pub record DeadlinesStand (timing : Timing) (now due gap_from : ℕ) (past : List Bool) (last : Option ℕ) : Type 0 where
  pub sound : IsSound timing
  pub at : now ≡ length past
  pub interval : due ≡ due_place timing last
  pub from : GapFrom timing.sg past last gap_from

-- At the place now it can be passed 2^62 bit times, less those since it was settled, at the place `timing.quiet`.
abbrev pub room_left : Timing → ℕ → ℕ
room_left timing now = 2 ^ 62 - (now - timing.quiet)
