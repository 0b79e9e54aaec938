-- Closed schedules that fail on a straight cable.
use Rattle.std.specs.Prelude.{ℕ, ◌≤◌, IsTrue, List}
use Rattle.bus_strings.specs.Marking.{greatest_end}
use Rattle.bus_table.specs.Tables.{Table, Hand}
use Rattle.bus_medium.specs.Delays.{cable}
use Rattle.bus_medium.specs.Wakes.{Wakes, AreWakes}
use Rattle.bus_medium.specs.CableLawful.{IsLawfulOnCable}
use Rattle.bus_medium.specs.Timings.{quiet_of, stations_of}
use Rattle.bus_schedule.specs.Even.{are_even, rounds}
use Rattle.bus_reach.specs.Schedule.{cable_closed}

-- There are places on a cable of length d, and wakes up to d, with which the closed schedule of no even hands of two rounds or more is the
-- lawful list up to its end.
pub record FailsOnCable (table : Table) (d : ℕ) : Type 0 where
  pub place : ℕ → ℕ
  pub wake : Wakes
  pub places : (number : ℕ) → place number ≤ d
  pub wakes : AreWakes d table.senders wake
  pub fails : (hands : List Hand) → IsTrue (are_even table hands) → 2 ≤ rounds hands
      → IsLawfulOnCable (quiet_of table) (cable place) wake (stations_of table hands)
      (greatest_end (cable_closed (cable place) wake table hands)) (cable_closed (cable place) wake table hands) → ⊥
