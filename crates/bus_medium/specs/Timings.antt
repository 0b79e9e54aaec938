-- The timings and stations of the senders of a table.
use Rattle.std.specs.Prelude.{List, map, zip}
use Rattle.bus_timers.specs.declared.timing.Timing.{Timing}
use Rattle.bus_table.specs.Tables.{Sender, Table, Hand}
pub use Rattle.bus_table.specs.Timers.{greatest_gap, quiet_for, quiet_of, due_for, due_of}
use Rattle.bus_medium.specs.Lawful.{Station}

-- The timing of a sender of the table.
abbrev pub timing_of : Table → Sender → Timing
timing_of table sender = record { ti = table.ti; sg = table.sg; tg = sender.tg; quiet = quiet_of table; due = due_of table sender }

-- What the rules read of the senders of a table, with one hand for each in the same order.
abbrev pub stations_of : Table → List Hand → List Station
stations_of table hands = map (λ p. record { number = p.1.terminal; timing = timing_of table p.0; hand = p.1.messages })
    (zip table.senders hands)
