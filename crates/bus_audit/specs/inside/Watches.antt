-- What the auditor keeps of each sender, and how it moves. Places are moments counted from the beginning of the past.
--   due    the place at which its transmit interval elapses
--   gap    the place from which its terminal gap counts, or will if the bus stays quiet
--   left   how many messages it has left
use Rattle.std.specs.Prelude.{◌≡◌, ℕ, ◌+◌, ◌-◌, ◌*◌, ◌^◌, ◌<◌, ◌≤◌, max, nat_le, List, slice_get, Some, if◌then◌else◌}
use Rattle.bus_table.specs.Tables.{Sender, Table}
use Rattle.bus_timers.specs.Timings.{IsSound}
use Rattle.bus_strings.specs.Limits.{most_terminal}
use Rattle.bus_trace.specs.declared.hold.Hold.{Hold}
use Rattle.bus_medium.specs.Timings.{quiet_of, due_for, timing_of}
use Rattle.bus_audit.specs.Breaches.{held}
use Rattle.bus_audit.specs.declared.watch.Watch.{Watch}

-- The first place at which the timers allow a start, if the bus stays quiet.
abbrev pub ready : Watch → ℕ
ready watch = max watch.due (watch.gap + watch.timing.tg)

-- The moment of that place, or c where it is later.
abbrev pub ready_moment : ℕ → ℕ → Watch → ℕ
ready_moment quiet c watch = max c (ready watch - quiet)

-- A pair as one number: pairs go as their numbers do.
abbrev pub pair : ℕ → ℕ → ℕ
pair t n = 256 * t + n

-- The pair at which the sender is next missed.
abbrev pub turn : ℕ → ℕ → Watch → ℕ
turn quiet c watch = pair (ready_moment quiet c watch) watch.number

-- The watch of a sender at the settled start.
abbrev pub settled : Table → List Hold → Sender → Watch
settled table holds sender = record {
  number = sender.number;
  timing = timing_of table sender;
  due = quiet_of table + due_for table.mode sender;
  gap = table.sg;
  left = held holds sender.number;
}

-- The watch when its sender begins a message at this place.
abbrev pub begun : ℕ → Watch → Watch
begun place watch = record watch { due = place + watch.timing.ti; gap = place + watch.timing.sg; left = watch.left - 1 }

-- The watch when the bus was busy from one place to another.
abbrev pub passed : ℕ → ℕ → Watch → Watch
passed from to watch = record watch { gap = if nat_le watch.gap from then to else to + watch.timing.sg }

-- Its numbers are far below the end of their type.
pub record IsLow (watch : Watch) : Type 0 where
  pub sound : IsSound watch.timing
  pub number : watch.number ≤ most_terminal
  pub due : watch.due < 2 ^ 42
  pub gap : watch.gap < 2 ^ 42

-- So it is of each watch.
abbrev pub AreLow : List Watch → Type 0
AreLow watches = (j : ℕ) (w : Watch) → slice_get watches j ≡ Some w → IsLow w

-- No sender with messages left is missed before this pair.
abbrev pub NoneBefore : ℕ → ℕ → List Watch → ℕ → Type 0
NoneBefore quiet c watches p = (j : ℕ) (w : Watch) → slice_get watches j ≡ Some w → 0 < w.left → p ≤ turn quiet c w

-- A sender with messages left that is missed at this pair.
pub record Misses (quiet c : ℕ) (watches : List Watch) (p : ℕ) : Type 0 where
  pub place : ℕ
  pub watch : Watch
  pub at : slice_get watches place ≡ Some watch
  pub left : 0 < watch.left
  pub turn_is : turn quiet c watch ≡ p
