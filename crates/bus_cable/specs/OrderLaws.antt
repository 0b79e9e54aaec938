-- What follows of the definitions for the list of a run on a cable whose layout a text gives.
use Rattle.std.specs.Prelude.{◌≡◌, ◌↔◌, ◌⊎◌, ℕ, ◌<◌, ◌≤◌, Bool, false, IsTrue, List, length}
use Rattle.std.specs.List.{AllByRecursion}
use Rattle.bus_strings.specs.Marking.{greatest_end}
use Rattle.bus_strings.specs.Members.{In}
use Rattle.bus_strings.specs.Messages.{Entry}
use Rattle.bus_table.specs.declared.mode.Mode.TheVariants.{Aperiodic, Periodic}
use Rattle.bus_table.specs.Tables.{Table, Hand}
use Rattle.bus_table.specs.Hands.{are_hands}
use Rattle.bus_table.specs.Valid.{is_valid}
use Rattle.bus_medium.specs.CableLawful.{IsLawfulOnCable}
use Rattle.bus_medium.specs.Delays.{Delays, cable}
use Rattle.bus_medium.specs.Timings.{quiet_of, stations_of}
use Rattle.bus_medium.specs.Wakes.{Wakes, AreWakes}
use Rattle.bus_propagation.specs.Lists.{IsListOnCable, IsOnlyListOnCable}
use Rattle.bus_regime.specs.Verdicts.{verdict_of, is_accepted}
use Rattle.bus_schedule.specs.Closed.{closed, closed_end}
use Rattle.bus_schedule.specs.Even.{are_even}
use Rattle.bus_schedule.specs.Runs.{IsInTurns}
use Rattle.bus_reach.specs.Bearing.{bears}
use Rattle.bus_reach.specs.Schedule.{cable_closed}
use Rattle.bus_cable.specs.HeardTexts.{terminals, heard_text}
use Rattle.bus_cable.specs.Hearing.{hearings}
use Rattle.bus_cable.specs.Layouts.{AreAlike, AreNear}

-- Strangers count for nothing: with layouts that are alike the senders do the same.
abbrev pub StrangersSendNothing : Type 0
StrangersSendNothing =
    (table : Table) (hands : List Hand) (place other_place : ℕ → ℕ) (wake other_wake : Wakes) (horizon : ℕ) (list : List Entry)
    → IsTrue (is_valid table) → IsTrue (are_hands table.senders hands) → AreAlike table place other_place wake other_wake
    → IsListOnCable table hands place wake horizon list ↔ IsListOnCable table hands other_place other_wake horizon list

-- And each terminal of the table hears the same of it.
abbrev pub StrangersHearNothing : Type 0
StrangersHearNothing =
    (table : Table) (hands : List Hand) (place other_place : ℕ → ℕ) (wake other_wake : Wakes) (horizon : ℕ) (list : List Entry)
    (number : ℕ) → IsTrue (is_valid table) → IsTrue (are_hands table.senders hands) → AreAlike table place other_place wake other_wake
    → IsListOnCable table hands place wake horizon list → In number (terminals table)
    → hearings (cable place) list number ≡ hearings (cable other_place) list number

-- So the heard text is the same.
abbrev pub StrangersAreUnwritten : Type 0
StrangersAreUnwritten =
    (table : Table) (hands : List Hand) (place other_place : ℕ → ℕ) (wake other_wake : Wakes) (horizon : ℕ) (list : List Entry)
    → IsTrue (is_valid table) → IsTrue (are_hands table.senders hands) → AreAlike table place other_place wake other_wake
    → IsListOnCable table hands place wake horizon list → heard_text table (cable place) list ≡ heard_text table (cable other_place) list

-- Spent hands start nothing: what is lawful up to a moment, and holds every message of even hands, is lawful up to every later one.
abbrev pub SpentHandsAreSilent : Type 0
SpentHandsAreSilent =
    (table : Table) (hands : List Hand) (delay : Delays) (wake : Wakes) (until horizon : ℕ) (list : List Entry) → IsTrue (is_valid table)
    → IsTrue (are_even table hands) → IsLawfulOnCable (quiet_of table) delay wake (stations_of table hands) until list
    → IsInTurns table hands list → until ≤ horizon → IsLawfulOnCable (quiet_of table) delay wake (stations_of table hands) horizon list

-- The list is the run on a cable with these places and wakes up to the horizon:
--   lawful   each sender starts exactly when its three timers allow after what it heard
--   only     no other list is lawful up to there
--   clear    no terminal of the table hears a transmission of another garbled; with one sender alone, where no terminal is farther from it
--            than the synchronization gap
pub record IsRunOnPlaces (table : Table) (hands : List Hand) (place : ℕ → ℕ) (wake : Wakes) (horizon : ℕ) (list : List Entry) : Type 0 where
  pub lawful : IsListOnCable table hands place wake horizon list
  pub only : IsOnlyListOnCable table hands place wake horizon list
  pub clear : (1 < length table.senders) ⊎ AreNear table.sg table place → (number : ℕ) → In number (terminals table)
      → AllByRecursion (λ (marked : Entry × Bool). marked.1 ≡ false) (hearings (cable place) list number)

-- For an accepted aperiodic table and even hands, on a cable on which no terminal is farther from a sender than the table bears, with wakes
-- of its senders that are no later than that, the closed schedule is the run up to every horizon that isn't before its end.
abbrev pub BorneIsOrderly : Type 0
BorneIsOrderly =
    (table : Table) (hands : List Hand) (most : ℕ) (place : ℕ → ℕ) (wake : Wakes) (horizon : ℕ) → IsTrue (is_valid table)
    → table.mode ≡ Aperiodic → IsTrue (is_accepted (verdict_of table)) → IsTrue (are_even table hands) → IsTrue (bears table most)
    → AreNear most table place → AreWakes most table.senders wake → greatest_end (cable_closed (cable place) wake table hands) ≤ horizon
    → IsRunOnPlaces table hands place wake horizon (cable_closed (cable place) wake table hands)

-- For an accepted periodic table and even hands, on such a cable, where all its senders wake at the settled start, that run is the closed
-- schedule without delays.
abbrev pub PeriodicBorneIsOrderly : Type 0
PeriodicBorneIsOrderly =
    (table : Table) (hands : List Hand) (most : ℕ) (place : ℕ → ℕ) (wake : Wakes) (horizon : ℕ) → IsTrue (is_valid table)
    → table.mode ≡ Periodic → IsTrue (is_accepted (verdict_of table)) → IsTrue (are_even table hands) → IsTrue (bears table most)
    → AreNear most table place → AreWakes 0 table.senders wake → closed_end table hands ≤ horizon
    → IsRunOnPlaces table hands place wake horizon (closed table hands)
