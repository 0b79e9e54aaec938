-- What follows of the definitions, with no limit on the closed end.
use Rattle.std.specs.Prelude.{◌≡◌, ◌↔◌, suc, ◌+◌, ◌*◌, ◌<◌, ◌≤◌, ℕ, IsNone, IsTrue, List, Some, length, slice_get}
use Rattle.bus_strings.specs.Marking.{greatest_end}
use Rattle.bus_strings.specs.Members.{In}
use Rattle.bus_strings.specs.Messages.{Message, Entry}
use Rattle.bus_strings.specs.Transmissions.{end_of, IsAscending}
use Rattle.bus_table.specs.declared.mode.Mode.TheVariants.{Aperiodic, Periodic}
use Rattle.bus_table.specs.Tables.{Sender, Table, Hand, sender_numbers}
use Rattle.bus_table.specs.Hands.{are_hands}
use Rattle.bus_table.specs.Turns.{turn_order}
use Rattle.bus_table.specs.Valid.{is_valid}
use Rattle.bus_medium.specs.Delays.{Delays, AreDelays}
use Rattle.bus_medium.specs.Lawful.{Station, IsDue, IsLawful}
use Rattle.bus_medium.specs.Timings.{quiet_of, stations_of}
use Rattle.bus_regime.specs.Gaps.{Gap, gaps}
use Rattle.bus_regime.specs.Verdicts.{IsRefused, most_cycle, verdict_of, is_accepted}
use Rattle.bus_schedule.specs.Even.{are_even, messages_of, rounds}
use Rattle.bus_schedule.specs.Uneven.{uneven_of}
use Rattle.bus_schedule.specs.Closed.{origin, turns_end, closed, closed_end}
use Rattle.bus_schedule.specs.Live.{live, live_rounds, AreLong}
use Rattle.bus_schedule.specs.Limits.{longest_end}
use Rattle.bus_schedule.specs.Runs.{IsClear, IsInTurns, IsRun}
use Rattle.bus_schedule.specs.CableRuns.{IsRunOnCable}
use Rattle.bus_schedule.specs.Slack.{gaps_bear}
use Rattle.bus_schedule.specs.Settled.{Fails, IsSettled, witness_hands}

-- For an accepted table in either mode and even hands, of any length, the closed schedule is the run.
abbrev pub AcceptedIsClosed : Type 0
AcceptedIsClosed =
    (table : Table) (hands : List Hand) → IsTrue (is_valid table) → IsTrue (is_accepted (verdict_of table)) → IsTrue (are_even table hands)
    → IsRun table hands (closed table hands)

-- The closed schedule of a table, accepted or not, and even hands:
--   ascends   it is ordered by moment, then terminal
--   turns     each of its rounds holds each sender once, in turn order
--   clear     in aperiodic mode no two of its transmissions overlap
pub record IsOrderly (table : Table) (hands : List Hand) : Type 0 where
  pub ascends : IsAscending (closed table hands)
  pub turns : IsInTurns table hands (closed table hands)
  pub clear : table.mode ≡ Aperiodic → IsClear (closed table hands)

-- Every closed schedule is orderly.
abbrev pub ClosedIsOrderly : Type 0
ClosedIsOrderly = (table : Table) (hands : List Hand) → IsTrue (is_valid table) → IsTrue (are_even table hands) → IsOrderly table hands

-- The closed schedule of an aperiodic table, accepted or not, ends within as many cycles of longest messages as it has rounds.
abbrev pub ClosedEndsInCycles : Type 0
ClosedEndsInCycles =
    (table : Table) (hands : List Hand) → IsTrue (is_valid table) → table.mode ≡ Aperiodic → IsTrue (are_even table hands)
    → closed_end table hands ≤ rounds hands * most_cycle table

-- Lawful up to its end, without overlaps.
pub record IsLawfulToItsEnd (table : Table) (hands : List Hand) (list : List Entry) : Type 0 where
  pub lawful : IsLawful (quiet_of table) (stations_of table hands) (greatest_end list) list
  pub clear : IsClear list

-- For an aperiodic table and any hands, as many rounds as one likes of the senders that have a message left are lawful up to their end,
-- without overlaps, where each behind the first is long enough. Whether the verdict accepts the table isn't asked.
abbrev pub LiveRoundsAreLawful : Type 0
LiveRoundsAreLawful =
    (table : Table) (hands : List Hand) (n : ℕ) → IsTrue (is_valid table) → table.mode ≡ Aperiodic → IsTrue (are_hands table.senders hands)
    → AreLong table (messages_of hands) → IsLawfulToItsEnd table hands (live_rounds table (messages_of hands) n)

-- The greatest end of such rounds, of which the last has a sender, is where the last turn of that one ends.
abbrev pub LiveRoundsEnd : Type 0
LiveRoundsEnd =
    (table : Table) (messages : ℕ → List Message) (round : ℕ) → 0 < length (live table messages round)
    → greatest_end (live_rounds table messages (suc round))
    ≡ turns_end messages round (live table messages round) (origin messages table.sg (live table messages) round)

-- The closed schedule of an aperiodic table and even hands is such rounds, as many as each hand has messages.
abbrev pub EvenRoundsAreClosed : Type 0
EvenRoundsAreClosed =
    (table : Table) (hands : List Hand) → IsTrue (is_valid table) → table.mode ≡ Aperiodic → IsTrue (are_even table hands)
    → live_rounds table (messages_of hands) (rounds hands) ≡ closed table hands

-- What the messages of a periodic table leave: of two neighbours in the closed schedule, accepted or not, the second starts at least as
-- long behind the end of the first as the gap before its sender is, taken with longest messages.
abbrev pub GapsAreLeft : Type 0
GapsAreLeft =
    (table : Table) (hands : List Hand) (k : ℕ) (x y : Entry) (gap : Gap) → IsTrue (is_valid table) → table.mode ≡ Periodic
    → IsTrue (are_even table hands) → slice_get (closed table hands) k ≡ Some x → slice_get (closed table hands) (k + 1) ≡ Some y
    → In gap (gaps table) → gap.sender.number ≡ y.terminal → end_of x + gap.to ≤ y.moment + gap.from

-- Dealt hands are even exactly where no sender differs from the first in turn order.
abbrev pub EvenHandsAgree : Type 0
EvenHandsAgree =
    (table : Table) (hands : List Hand) → IsTrue (is_valid table) → IsTrue (are_hands table.senders hands)
    → IsNone (uneven_of table hands) ↔ IsTrue (are_even table hands)

-- The verdict accepts exactly the settled tables.
abbrev pub TheSettledAreAccepted : Type 0
TheSettledAreAccepted = (table : Table) → IsTrue (is_valid table) → IsTrue (is_accepted (verdict_of table)) ↔ IsSettled table

-- A table that isn't accepted fails with the hands of its witness.
abbrev pub TheRefusedFail : Type 0
TheRefusedFail =
    (table : Table) → IsTrue (is_valid table) → IsRefused table
    → Fails table (witness_hands table) (closed table (witness_hands table))

-- The hands of a witness are even.
abbrev pub WitnessesAreEven : Type 0
WitnessesAreEven = (table : Table) → IsTrue (is_valid table) → IsTrue (are_even table (witness_hands table))

-- The closed end of the hands of a witness is within the limit.
abbrev pub WitnessesAreShort : Type 0
WitnessesAreShort = (table : Table) → IsTrue (is_valid table) → closed_end table (witness_hands table) ≤ longest_end

-- For an accepted periodic table and even hands of any length, with delays between its senders up to what its gaps bear, the closed
-- schedule is the run on the cable.
abbrev pub BorneGapsAreClosed : Type 0
BorneGapsAreClosed =
    (table : Table) (hands : List Hand) (most : ℕ) (delay : Delays) → IsTrue (is_valid table) → table.mode ≡ Periodic
    → IsTrue (is_accepted (verdict_of table)) → IsTrue (are_even table hands) → AreDelays most (sender_numbers table) delay
    → IsTrue (gaps_bear table most) → IsRunOnCable table hands most delay (closed table hands)

-- The gaps of every accepted periodic table bear a delay of 0.
abbrev pub AcceptedGapsBearNone : Type 0
AcceptedGapsBearNone =
    (table : Table) → IsTrue (is_valid table) → table.mode ≡ Periodic → IsTrue (is_accepted (verdict_of table)) → IsTrue (gaps_bear table 0)

-- With the hands of its witness the first sender in turn order starts a second time in the closed schedule where it isn't due.
pub record StartsTooEarly (table : Table) : Type 0 where
  pub first : Sender
  pub in_turn : slice_get (turn_order table) 0 ≡ Some first
  pub again : Entry
  pub at : slice_get (closed table (witness_hands table)) (length table.senders) ≡ Some again
  pub terminal : again.terminal ≡ first.number
  pub early : (station : Station) → In station (stations_of table (witness_hands table)) → station.number ≡ first.number
      → IsDue (quiet_of table) (closed table (witness_hands table)) station again.moment → ⊥

-- So it is for every aperiodic table that isn't accepted.
abbrev pub ShortCyclesStartEarly : Type 0
ShortCyclesStartEarly =
    (table : Table) → IsTrue (is_valid table) → table.mode ≡ Aperiodic → IsRefused table → StartsTooEarly table
