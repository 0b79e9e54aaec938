-- How long a cable a table bears, in either mode.
use Rattle.std.specs.Prelude.{ℕ, zero, suc, ◌*◌, Bool, ◌==◌, length, Option, Some, None, if◌then◌else◌}
use Rattle.bus_table.specs.declared.mode.Mode.{Mode}
use Rattle.bus_table.specs.declared.mode.Mode.TheVariants.{Aperiodic, Periodic}
use Rattle.bus_table.specs.Tables.{Table}
use Rattle.bus_schedule.specs.Slack.{gaps_bear}
use Rattle.bus_reach.specs.Tolerance.{lengths_bear}

-- Whether a table bears delays up to d: in aperiodic mode by its terminal gaps and its synchronization gap, in periodic mode by the gaps
-- that its offsets leave.
abbrev pub bears_in : Mode → Table → ℕ → Bool
bears_in Aperiodic table d = lengths_bear table d
bears_in Periodic table d = gaps_bear table d

-- Whether a table that the verdict accepts bears delays up to d. A sender alone bears any.
abbrev pub bears : Table → ℕ → Bool
bears table d = bears_in table.mode table d

-- The greatest number up to a bound that a test takes, and 0 where it takes none.
abbrev pub greatest_to : (ℕ → Bool) → ℕ → ℕ
greatest_to test zero = zero
greatest_to test (suc n) = if test (suc n) then suc n else greatest_to test n

-- The tolerance of an accepted table: the greatest delay that it bears, or None where it has one sender, which bears every delay. No other
-- bears a delay of two transmit intervals.
abbrev pub tolerance_of : Table → Option ℕ
tolerance_of table = if length table.senders == 1 then None else Some (greatest_to (bears table) (2 * table.ti))
