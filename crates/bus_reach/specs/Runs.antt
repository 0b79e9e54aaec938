-- What a run of an accepted aperiodic table and even hands is, on a cable that the table bears.
use Rattle.std.specs.Prelude.{◌≡◌, ℕ, ◌+◌, ◌*◌, ◌==◌, List, length, slice_get, Some, if◌then◌else◌}
use Rattle.bus_strings.specs.Marking.{greatest_end}
use Rattle.bus_strings.specs.Messages.{Entry}
use Rattle.bus_table.specs.declared.mode.Mode.{Mode}
use Rattle.bus_table.specs.Tables.{Table, Hand, sender_numbers}
use Rattle.bus_medium.specs.Timings.{quiet_of, stations_of}
use Rattle.bus_regime.specs.declared.table_verdict.TableVerdict.TheVariants.{Accept}
use Rattle.bus_regime.specs.Verdicts.{verdict_of}
use Rattle.bus_schedule.specs.CableRuns.{clear_within}
use Rattle.bus_schedule.specs.Runs.{IsClear, IsInTurns, IsApart}
use Rattle.bus_medium.specs.Delays.{Delays, HearsWithin, heard}
use Rattle.bus_medium.specs.CableLawful.{IsLawfulOnCable}

-- By how much delays up to `most` lengthen a cycle at most: once for each sender that isn't alone.
abbrev pub cycle_delay : Table → ℕ → ℕ
cycle_delay table most = if length table.senders == 1 then 0 else length table.senders * most

-- Two successive starts of one sender are as far apart as the verdict says, or farther by what the delays add to a cycle.
abbrev pub IsSpacedWithin : Table → ℕ → List Entry → Type 0
IsSpacedWithin table delays list =
    (mode : Mode) (least most k : ℕ) (x y : Entry) → verdict_of table ≡ Accept mode least most → slice_get list k ≡ Some x
    → slice_get list (k + length table.senders) ≡ Some y → IsApart least (most + cycle_delay table delays) x y

-- The list is the run of a table and even hands with these delays, which are up to `most` between its senders, and these wakes:
--   lawful    each sender starts exactly when it has a message left and its three timers allow after what it heard, up to the list's end
--   only      no other list is lawful up to there
--   clear     no terminal that hears every sender soon enough, be it a sender or a listener, hears two transmissions overlap
--   turns     every round holds each sender once, in turn order
--   spaced    successive starts of a sender are as far apart as the verdict and the delays say.
pub record IsCableRun (table : Table) (hands : List Hand) (most : ℕ) (delay : Delays) (wake : ℕ → ℕ) (list : List Entry) : Type 0 where
  pub lawful : IsLawfulOnCable (quiet_of table) delay wake (stations_of table hands) (greatest_end list) list
  pub only : (other : List Entry) → IsLawfulOnCable (quiet_of table) delay wake (stations_of table hands) (greatest_end list) other
      → other ≡ list
  pub clear : (number : ℕ) → HearsWithin (clear_within table most) (sender_numbers table) delay number → IsClear (heard delay number list)
  pub turns : IsInTurns table hands list
  pub spaced : IsSpacedWithin table most list
