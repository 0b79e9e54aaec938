-- What the table says of the settled start: how long the bus was quiet before it, and when each sender is due.
-- Both are this project's profile, in bit times.
use Rattle.std.specs.Prelude.{ℕ, ◌+◌, max, List, fold}
use Rattle.bus_table.specs.declared.mode.Mode.{Mode}
use Rattle.bus_table.specs.declared.mode.Mode.TheVariants.{Aperiodic, Periodic}
use Rattle.bus_table.specs.Tables.{Sender, Table}

-- The greatest terminal gap of these senders, and 0 where there is none.
abbrev pub greatest_gap : List Sender → ℕ
greatest_gap senders = fold (λ gap sender. max gap sender.tg) 0 senders

-- One synchronization gap, and in periodic mode the greatest terminal gap behind it.
abbrev pub quiet_for : Mode → ℕ → List Sender → ℕ
quiet_for Aperiodic sg senders = sg
quiet_for Periodic sg senders = sg + greatest_gap senders

-- How long the bus was quiet before the settled start.
abbrev pub quiet_of : Table → ℕ
quiet_of table = quiet_for table.mode table.sg table.senders

-- When a sender's transmit interval elapses for the first time: at once, or in periodic mode at its offset.
abbrev pub due_for : Mode → Sender → ℕ
due_for Aperiodic sender = 0
due_for Periodic sender = sender.at

-- When the transmit interval of a sender of the table elapses for the first time.
abbrev pub due_of : Table → Sender → ℕ
due_of table sender = due_for table.mode sender
