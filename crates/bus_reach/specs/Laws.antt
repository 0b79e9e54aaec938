-- What follows of the definitions.
use Rattle.std.specs.Prelude.{◌≡◌, ◌==◌, ◌||◌, ℕ, suc, ◌+◌, ◌*◌, ◌<◌, ◌≤◌, ◌↔◌, false, IsTrue, List, length}
use Rattle.bus_strings.specs.Marking.{greatest_end}
use Rattle.bus_strings.specs.Members.{In}
use Rattle.bus_strings.specs.Messages.{Entry}
use Rattle.bus_table.specs.declared.mode.Mode.TheVariants.{Aperiodic}
use Rattle.bus_table.specs.Tables.{Sender, Table, Hand, sender_numbers}
use Rattle.bus_table.specs.Turns.{turn_order}
use Rattle.bus_table.specs.Valid.{is_valid}
use Rattle.bus_medium.specs.Timings.{quiet_of, stations_of}
use Rattle.bus_regime.specs.Verdicts.{verdict_of, is_accepted, most_cycle}
use Rattle.bus_schedule.specs.CableRuns.{clear_within}
use Rattle.bus_schedule.specs.Closed.{closed}
use Rattle.bus_schedule.specs.Even.{are_even, rounds}
use Rattle.bus_schedule.specs.Live.{shortest_cycle}
use Rattle.bus_schedule.specs.Runs.{IsClear}
use Rattle.bus_medium.specs.Delays.{Delays, AreDelays, HearsWithin, at_once, heard}
use Rattle.bus_medium.specs.Wakes.{Wakes, AreWakes, settled}
use Rattle.bus_medium.specs.CableLawful.{IsLawfulOnCable}
use Rattle.bus_reach.specs.Schedule.{cable_closed}
use Rattle.bus_reach.specs.Bearing.{bears}
use Rattle.bus_reach.specs.Tolerance.{neighbours_leave_room}
use Rattle.bus_reach.specs.Runs.{IsCableRun, cycle_delay}
use Rattle.bus_reach.specs.Cables.{FailsOnCable}
use Rattle.bus_reach.specs.Joining.{round_members, round_turns, IsNewIn, founders, growing, IsFirstAwake}

-- Without delays, where all wake at the settled start, the closed schedule of an aperiodic table is that of `bus_schedule`.
abbrev pub NoDelayIsClosed : Type 0
NoDelayIsClosed =
    (table : Table) (hands : List Hand) → table.mode ≡ Aperiodic → cable_closed at_once settled table hands ≡ closed table hands

-- For an accepted aperiodic table and even hands of any length, with delays between its senders up to what the table bears, and wakes that
-- are no later than that, the closed schedule is the run.
abbrev pub BorneIsClosed : Type 0
BorneIsClosed =
    (table : Table) (hands : List Hand) (most : ℕ) (delay : Delays) (wake : Wakes) → IsTrue (is_valid table) → table.mode ≡ Aperiodic
    → IsTrue (is_accepted (verdict_of table)) → IsTrue (are_even table hands) → AreDelays most (sender_numbers table) delay
    → AreWakes most table.senders wake → IsTrue (bears table most)
    → IsCableRun table hands most delay wake (cable_closed delay wake table hands)

-- Where an accepted aperiodic table doesn't bear delays up to d, there are places on a straight cable of that length, and wakes, with which
-- the closed schedule fails, whatever even hands of two rounds or more its senders have.
abbrev pub ToleranceIsExact : Type 0
ToleranceIsExact =
    (table : Table) (d : ℕ) → IsTrue (is_valid table) → table.mode ≡ Aperiodic → IsTrue (is_accepted (verdict_of table))
    → bears table d ≡ false → FailsOnCable table d

-- An accepted aperiodic table keeps its schedule with delays up to d: whatever even hands its senders have, with all delays between them
-- and all wakes up to d, each starts where the closed schedule says, and nowhere else.
abbrev pub KeepsSchedule : Table → ℕ → Type 0
KeepsSchedule table d =
    (hands : List Hand) (delay : Delays) (wake : Wakes) → IsTrue (are_even table hands) → AreDelays d (sender_numbers table) delay
    → AreWakes d table.senders wake
    → IsLawfulOnCable (quiet_of table) delay wake (stations_of table hands) (greatest_end (cable_closed delay wake table hands))
    (cable_closed delay wake table hands)

-- It bears exactly the delays with which it keeps its schedule.
abbrev pub BorneIsKept : Type 0
BorneIsKept =
    (table : Table) (d : ℕ) → IsTrue (is_valid table) → table.mode ≡ Aperiodic → IsTrue (is_accepted (verdict_of table))
    → IsTrue (bears table d) ↔ KeepsSchedule table d

-- Every aperiodic table bears a delay of 0.
abbrev pub ZeroIsBorne : Type 0
ZeroIsBorne = (table : Table) → IsTrue (is_valid table) → table.mode ≡ Aperiodic → IsTrue (bears table 0)

-- With a delay it bears each shorter one.
abbrev pub ShorterIsBorne : Type 0
ShorterIsBorne =
    (table : Table) (less most : ℕ) → table.mode ≡ Aperiodic → less ≤ most → IsTrue (bears table most) → IsTrue (bears table less)

-- The growing schedule is what the senders do:
--   lawful    each sender starts exactly when its three timers allow after what it heard, up to the end of the list
--   only      no other list is lawful up to there
--   clear     no terminal that hears every sender soon enough, be it a sender or a listener, hears two transmissions overlap.
pub record IsJoinedRun (table : Table) (hands : List Hand) (most : ℕ) (delay : Delays) (wake : Wakes) (list : List Entry) : Type 0 where
  pub lawful : IsLawfulOnCable (quiet_of table) delay wake (stations_of table hands) (greatest_end list) list
  pub only : (other : List Entry) → IsLawfulOnCable (quiet_of table) delay wake (stations_of table hands) (greatest_end list) other
      → other ≡ list
  pub clear : (number : ℕ) → HearsWithin (clear_within table most) (sender_numbers table) delay number → IsClear (heard delay number list)

-- For an aperiodic table and even hands, with delays between its senders up to what the table bears, where no sender wakes earlier than the
-- first in turn order by more than that, and a shortest cycle of the senders of the first round takes at least one transmit interval:
-- whenever the others wake, the growing schedule is the run.
abbrev pub JoiningIsOrderly : Type 0
JoiningIsOrderly =
    (table : Table) (hands : List Hand) (most : ℕ) (delay : Delays) (wake : Wakes) → IsTrue (is_valid table) → table.mode ≡ Aperiodic
    → IsTrue (are_even table hands) → AreDelays most (sender_numbers table) delay → IsTrue (bears table most)
    → IsFirstAwake most wake (turn_order table)
    → table.ti ≤ shortest_cycle table (founders delay wake table hands)
    → IsJoinedRun table hands most delay wake (growing delay wake table hands)

-- Who takes its turn in a round of the growing schedule takes it in every round behind.
abbrev pub MembersStay : Type 0
MembersStay =
    (table : Table) (hands : List Hand) (most : ℕ) (delay : Delays) (wake : Wakes) (round : ℕ) (sender : Sender) → IsTrue (is_valid table)
    → table.mode ≡ Aperiodic → AreDelays most (sender_numbers table) delay → IsTrue (bears table most)
    → In sender (round_members delay wake table hands round)
    → In sender (round_members delay wake table hands (suc round))

-- Whoever takes its turn in a round and took none in the one before starts in it less than two longest cycles behind its wake, each with
-- what the delays add to it.
abbrev pub JoinersComeSoon : Type 0
JoinersComeSoon =
    (table : Table) (hands : List Hand) (most : ℕ) (delay : Delays) (wake : Wakes) (round : ℕ) (sender : Sender) (x : Entry)
    → IsTrue (is_valid table) → IsTrue (are_even table hands) → round < rounds hands → AreDelays most (sender_numbers table) delay
    → IsFirstAwake most wake (turn_order table) → In sender table.senders → IsNewIn (round_members delay wake table hands) round sender
    → In x (round_turns delay wake table hands round) → x.terminal ≡ sender.number
    → x.moment < wake sender.number + 2 * (most_cycle table + cycle_delay table most)

-- What a table bears is told by neighbours in turn order.
abbrev pub NeighboursTellBearing : Type 0
NeighboursTellBearing =
    (table : Table) (d : ℕ) → IsTrue (is_valid table) → table.mode ≡ Aperiodic
    → bears table d ≡ ((length table.senders == 1) || neighbours_leave_room d table.sg (turn_order table))
