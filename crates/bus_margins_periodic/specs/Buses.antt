-- When the senders of a periodic table are due for the first time, on the bus that it is within bounds.
use Rattle.std.specs.Prelude.{ℕ, ◌+◌, max}
use Rattle.bus_table.specs.Tables.{Sender, Table}
use Rattle.bus_table.specs.Timers.{quiet_of}
use Rattle.bus_table.specs.Turns.{turn_order}
use Rattle.bus_bounds.specs.Bounds.{Bounds}
use Rattle.bus_margins.specs.Buses.{at_place}
use Rattle.bus_margins.specs.Times.{least_time, most_time}

-- A sender is due for the first time no earlier than so long behind the first power-up: the quiet of a settled start, and its offset.
abbrev pub soon_by : Bounds → Table → Sender → ℕ
soon_by bounds table a = least_time bounds (quiet_of table + a.at)

-- And no later, where power-ups may lie apart by the delay, and it is in sync behind its own.
abbrev pub late_by : Bounds → Table → Sender → ℕ
late_by bounds table a =
    max (most_time bounds (quiet_of table + a.at)) (most_time bounds table.sg + most_time bounds a.tg) + bounds.delay

abbrev pub soon_of : Bounds → Table → ℕ → ℕ
soon_of bounds table = at_place (soon_by bounds table) (turn_order table)

abbrev pub late_of : Bounds → Table → ℕ → ℕ
late_of bounds table = at_place (late_by bounds table) (turn_order table)
