-- What follows of the definitions, with no limit on the end.
use Rattle.std.specs.Prelude.{◌≡◌, IsTrue, List}
use Rattle.bus_table.specs.declared.mode.Mode.TheVariants.{Aperiodic}
use Rattle.bus_table.specs.Tables.{Table, Hand}
use Rattle.bus_table.specs.Hands.{are_hands}
use Rattle.bus_table.specs.Valid.{is_valid}
use Rattle.bus_regime.specs.Verdicts.{verdict_of, is_accepted}
use Rattle.bus_schedule.specs.Closed.{closed}
use Rattle.bus_schedule.specs.Even.{are_even}
use Rattle.bus_dropout.specs.DropOut.{dropout, LastIsLong}
use Rattle.bus_dropout.specs.Runs.{IsDropRun}

-- For an aperiodic table and any hands whose last cycle, where there is one, is at least the transmit interval, the drop-out schedule is
-- the run. Nothing is said of a last cycle that is below it.
abbrev pub DropOutIsLawful : Type 0
DropOutIsLawful =
    (table : Table) (hands : List Hand) → IsTrue (is_valid table) → table.mode ≡ Aperiodic → IsTrue (are_hands table.senders hands)
    → LastIsLong table hands → IsDropRun table hands (dropout table hands)

-- With even hands the drop-out schedule is the closed schedule.
abbrev pub EvenDropOutIsClosed : Type 0
EvenDropOutIsClosed =
    (table : Table) (hands : List Hand) → IsTrue (is_valid table) → table.mode ≡ Aperiodic → IsTrue (are_even table hands)
    → dropout table hands ≡ closed table hands

-- With even hands the last cycle of an accepted table is at least the transmit interval.
abbrev pub EvenHandsAreLong : Type 0
EvenHandsAreLong =
    (table : Table) (hands : List Hand) → IsTrue (is_valid table) → table.mode ≡ Aperiodic → IsTrue (is_accepted (verdict_of table))
    → IsTrue (are_even table hands) → LastIsLong table hands
