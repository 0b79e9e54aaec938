-- A trace as the file that a monitor wrote of a real bus: in whole bit times, rounded down, counted from its own beginning, of a bus that
-- ran before and goes on behind it, with the numbers of the table.
use Rattle.std.specs.Prelude.{◌≡◌, ℕ, ◌+◌, ◌-◌, ◌*◌, ◌<◌, ◌≤◌, List}
use Rattle.bus_table.specs.Tables.{Sender, Table}
use Rattle.bus_trace.specs.Traces.{Recording}
use Rattle.bus_bounds.specs.Bounds.{Bounds}
use Rattle.bus_clocks.specs.Buses.{Bus}
use Rattle.bus_clocks.specs.Courses.{Course, IsCourse}
use Rattle.bus_clocks.specs.Entries.{Entry as Transmission, In}
use Rattle.bus_recording.specs.Seen.{Seen, Bounds as TimerBounds}
use Rattle.bus_recording.specs.Bounded.{bounds_of}
use Rattle.bus_recording.specs.Files.{IsFile, IsToldOf}
use Rattle.bus_recording.specs.Just.{AreWithin}
use Rattle.bus_recording.specs.Keeping.{KeepsBounds}
use Rattle.bus_recording.specs.Monitors.{IsPlaced}
use Rattle.bus_recording.specs.Names.{all_renamed}
use Rattle.bus_recording.specs.Rounding.{bounds_in_ticks}
use Rattle.bus_findings.specs.Recorded.{recorded, monitor_of, timers_of}

-- The trace is such a file, and the sender is a terminal of that bus:
--   course        what happened on the bus, in ticks
--   terminal      the terminal, by its number on the bus, and `name` gives each its number in the trace
--   arrives       when the monitor heard a transmission begin
--   away, reach   by how many ticks the terminal is away from the monitor, and may be at most
--   drop          no terminal hears so many quiet ticks in a row within a transmission
--   bit           how many ticks a bit time has
--   start, end    the bit times of the bus at which the file begins and ends
--   longest       how many ticks a transmission lasts that began before the file, at most
--   noted         how a transmission is noted, in bit times of the bus
--   file          what stands in the file, by the numbers on the bus.
pub record StandsInFile (bounds : Bounds) (table : Table) (trace : Recording) (sender : Sender) : Type 0 where
  pub course : Course
  pub terminal : ℕ
  pub name : ℕ → ℕ
  pub arrives : Transmission → ℕ
  pub away : ℕ
  pub reach : ℕ
  pub drop : ℕ
  pub bit : ℕ
  pub start : ℕ
  pub end : ℕ
  pub longest : ℕ
  pub noted : Transmission → Seen
  pub file : List Seen
  pub some : 1 ≤ bit
  pub placed : IsPlaced course drop arrives terminal away
  pub near : away ≤ reach
  pub noted_so : IsFile bit arrives noted start end course.list file
  pub told : IsToldOf course arrives terminal reach drop bit start longest (monitor_of bounds table)
  pub names : (a b : ℕ) → name a ≡ name b → a ≡ b
  pub named : name terminal ≡ sender.number
  pub is_trace : all_renamed name file ≡ recorded bounds trace.list

-- The sender keeps bounds there, whatever the others do. Rounding down takes less than a bit time from what it keeps.
pub record KeepsInFile (bounds : Bounds) (table : Table) (trace : Recording) (sender : Sender) : Type 0 where
  pub stands : StandsInFile bounds table trace sender
  pub from : ℕ
  pub kept : TimerBounds
  pub keeps : KeepsBounds stands.course kept stands.terminal from
  pub since : from ≤ stands.start * stands.bit - stands.away
  pub within : AreWithin (stands.bit - 1) kept (bounds_in_ticks stands.bit (timers_of bounds table sender))
  pub wide : stands.drop ≤ kept.short.tg
  pub long : (x : Transmission) → In x stands.course.list → x.sender ≡ stands.terminal → stands.bit ≤ x.length + kept.short.tg

-- What happened there is a course of a bus within bounds, from any state, and the sender is one of this bus.
pub record IsInCourse (bounds : Bounds) (table : Table) (trace : Recording) (sender : Sender) : Type 0 where
  pub stands : StandsInFile bounds table trace sender
  pub bus : Bus
  pub is_course : IsCourse bus stands.course
  pub sends : stands.terminal < bus.senders
  pub waits : 0 < bus.sg_long stands.terminal
  pub within : AreWithin (stands.bit - 1) (bounds_of bus stands.terminal) (bounds_in_ticks stands.bit (timers_of bounds table sender))
  pub wide : stands.drop ≤ bus.tg_short stands.terminal
  pub long : stands.bit ≤ bus.shortest stands.terminal + bus.tg_short stands.terminal
