-- A table in periodic mode.
use Rattle.std.specs.Prelude.{ℕ}
use Rattle.bus_table.specs.declared.mode.Mode.TheVariants.{Periodic}
use Rattle.bus_table.specs.Tables.{Table}

-- The table in periodic mode, with this transmit interval and nothing else changed: the senders of an aperiodic table keep the offset 0.
abbrev pub as_periodic : ℕ → Table → Table
as_periodic ti table =
    record { mode = Periodic; ti = ti; sg = table.sg; senders = table.senders; listeners = table.listeners }
