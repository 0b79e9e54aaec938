-- What follows of the definitions for periodic tables, and of what is borne in either mode.
use Rattle.std.specs.Prelude.{◌≡◌, ◌↔◌, ℕ, ◌<◌, ◌≤◌, false, IsTrue, List, length}
use Rattle.bus_strings.specs.Members.{In}
use Rattle.bus_table.specs.declared.mode.Mode.TheVariants.{Periodic}
use Rattle.bus_table.specs.Tables.{Table, Hand, sender_numbers}
use Rattle.bus_table.specs.Valid.{is_valid}
use Rattle.bus_medium.specs.CableLawful.{IsLawfulOnCable}
use Rattle.bus_medium.specs.Delays.{Delays, AreDelays, cable}
use Rattle.bus_medium.specs.Timings.{quiet_of, stations_of}
use Rattle.bus_medium.specs.Wakes.{settled}
use Rattle.bus_regime.specs.Verdicts.{verdict_of, is_accepted}
use Rattle.bus_schedule.specs.CableRuns.{IsRunOnCable}
use Rattle.bus_schedule.specs.Closed.{closed, closed_end}
use Rattle.bus_schedule.specs.Even.{are_even}
use Rattle.bus_schedule.specs.Settled.{witness_hands}
use Rattle.bus_reach.specs.Bearing.{bears}

-- With these hands and delays the closed schedule is what happens, up to the closed end.
abbrev pub HappensOnCable : Table → List Hand → Delays → Type 0
HappensOnCable table hands delay =
    IsLawfulOnCable (quiet_of table) delay settled (stations_of table hands) (closed_end table hands) (closed table hands)

-- There are places on a straight cable of length d with which the closed schedule of the table's witness isn't what happens.
pub record BreaksOnCable (table : Table) (d : ℕ) : Type 0 where
  pub place : ℕ → ℕ
  pub within : (number : ℕ) → place number ≤ d
  pub breaks : HappensOnCable table (witness_hands table) (cable place) → ⊥

-- For an accepted periodic table and even hands of any length, with delays between its senders up to what the table bears, the closed
-- schedule is the run.
abbrev pub PeriodicBorneIsClosed : Type 0
PeriodicBorneIsClosed =
    (table : Table) (hands : List Hand) (most : ℕ) (delay : Delays) → IsTrue (is_valid table) → table.mode ≡ Periodic
    → IsTrue (is_accepted (verdict_of table)) → IsTrue (are_even table hands) → AreDelays most (sender_numbers table) delay
    → IsTrue (bears table most) → IsRunOnCable table hands most delay (closed table hands)

-- Longer delays than those an accepted periodic table bears make the closed schedule of its witness fail, on some straight cable.
abbrev pub PeriodicNotBorneBreaks : Type 0
PeriodicNotBorneBreaks =
    (table : Table) (d : ℕ) → IsTrue (is_valid table) → table.mode ≡ Periodic → IsTrue (is_accepted (verdict_of table))
    → bears table d ≡ false → BreaksOnCable table d

-- A periodic table keeps its schedule with all delays between its senders up to d, whatever even hands its senders have.
abbrev pub KeepsOffsets : Table → ℕ → Type 0
KeepsOffsets table d =
    (hands : List Hand) (delay : Delays) → IsTrue (are_even table hands) → AreDelays d (sender_numbers table) delay
    → HappensOnCable table hands delay

-- An accepted periodic table bears exactly the delays with which it keeps its schedule.
abbrev pub PeriodicBearingIsExact : Type 0
PeriodicBearingIsExact =
    (table : Table) (d : ℕ) → IsTrue (is_valid table) → table.mode ≡ Periodic → IsTrue (is_accepted (verdict_of table))
    → IsTrue (bears table d) ↔ KeepsOffsets table d

-- Places of senders on a straight cable make delays up to its length, wherever other terminals are.
abbrev pub CablesDelay : Type 0
CablesDelay =
    (most : ℕ) (senders : List ℕ) (place : ℕ → ℕ) → ((number : ℕ) → In number senders → place number ≤ most)
    → AreDelays most senders (cable place)

-- Every accepted table bears a delay of 0.
abbrev pub AcceptedBearZero : Type 0
AcceptedBearZero = (table : Table) → IsTrue (is_valid table) → IsTrue (is_accepted (verdict_of table)) → IsTrue (bears table 0)

-- And what bears a delay of 0 in periodic mode is accepted, where there are two senders or more. (A sender alone bears every delay by
-- definition, also where the verdict refuses it.)
abbrev pub BearZeroIsAccepted : Type 0
BearZeroIsAccepted =
    (table : Table) → IsTrue (is_valid table) → table.mode ≡ Periodic → 1 < length table.senders → IsTrue (bears table 0)
    → IsTrue (is_accepted (verdict_of table))

-- What an accepted table bears it bears for less.
abbrev pub BorneForLess : Type 0
BorneForLess =
    (table : Table) (less most : ℕ) → IsTrue (is_valid table) → IsTrue (is_accepted (verdict_of table)) → less ≤ most
    → IsTrue (bears table most) → IsTrue (bears table less)
