-- How long a filling message is. No public clause cites it.
use Rattle.std.specs.Prelude.{ℕ}
use Rattle.bus_table.specs.declared.mode.Mode.{Mode}
use Rattle.bus_table.specs.declared.mode.Mode.TheVariants.{Aperiodic, Periodic}
use Rattle.bus_table.specs.Lengths.{shortest, longest}
use Rattle.bus_table.specs.Tables.{Sender}

-- The bit times of a filling message: those of the shortest message in aperiodic mode, of the longest in periodic mode.
abbrev pub filling_bits : Mode → Sender → ℕ
filling_bits Aperiodic sender = shortest sender
filling_bits Periodic sender = longest sender
