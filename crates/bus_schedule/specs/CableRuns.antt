-- What a run of an accepted periodic table and even hands is on a cable that the table bears.
use Rattle.std.specs.Prelude.{◌≡◌, ◌==◌, ℕ, List, length, if◌then◌else◌}
use Rattle.bus_strings.specs.Messages.{Entry}
use Rattle.bus_table.specs.Tables.{Table, Hand, sender_numbers}
use Rattle.bus_medium.specs.CableLawful.{IsLawfulOnCable}
use Rattle.bus_medium.specs.Delays.{Delays, HearsWithin, heard}
use Rattle.bus_medium.specs.Timings.{quiet_of, stations_of}
use Rattle.bus_medium.specs.Wakes.{settled}
use Rattle.bus_schedule.specs.Closed.{closed, closed_end}
use Rattle.bus_schedule.specs.Runs.{IsClear, IsInTurns, IsPaced}

-- By how many bit times later a terminal may hear the senders of a table and hear no two transmissions overlap, where the delays between the
-- senders are up to `most`: by as many, and a lone sender by a synchronization gap.
abbrev pub clear_within : Table → ℕ → ℕ
clear_within table most = if length table.senders == 1 then table.sg else most

-- The list is the run of a table and even hands with these delays, which are up to `most` between its senders:
--   closed    it is the closed schedule without delays, in whole
--   lawful    each sender starts exactly when it has a message left and its three timers allow after what it heard, up to the closed end
--   only      no other list is lawful up to there
--   clear     no terminal that hears every sender soon enough, be it a sender or a listener, hears two transmissions overlap
--   turns     every round holds each sender once, in turn order
--   paced     successive starts of a sender are one transmit interval apart
pub record IsRunOnCable (table : Table) (hands : List Hand) (most : ℕ) (delay : Delays) (list : List Entry) : Type 0 where
  pub closed : list ≡ closed table hands
  pub lawful : IsLawfulOnCable (quiet_of table) delay settled (stations_of table hands) (closed_end table hands) list
  pub only : (other : List Entry) → IsLawfulOnCable (quiet_of table) delay settled (stations_of table hands) (closed_end table hands) other
      → other ≡ list
  pub clear : (number : ℕ) → HearsWithin (clear_within table most) (sender_numbers table) delay number → IsClear (heard delay number list)
  pub turns : IsInTurns table hands list
  pub paced : IsPaced table list
