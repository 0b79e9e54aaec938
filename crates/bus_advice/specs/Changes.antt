-- A table with one of its numbers changed, and nothing else.
use Rattle.std.specs.Prelude.{ℕ, zero, suc, ◌==◌, List, [], ◌∷◌, map, if◌then◌else◌}
use Rattle.bus_table.specs.declared.line.SendLine.{SendLine}
use Rattle.bus_table.specs.Tables.{Sender, Table}

-- The table with this transmit interval.
abbrev pub with_interval : ℕ → Table → Table
with_interval ti table =
    record { mode = table.mode; ti = ti; sg = table.sg; senders = table.senders; listeners = table.listeners }

-- The table with this synchronization gap.
abbrev pub with_synchronization : ℕ → Table → Table
with_synchronization sg table =
    record { mode = table.mode; ti = table.ti; sg = sg; senders = table.senders; listeners = table.listeners }

-- The table with these senders.
abbrev pub with_senders : List Sender → Table → Table
with_senders senders table =
    record { mode = table.mode; ti = table.ti; sg = table.sg; senders = senders; listeners = table.listeners }

-- The sender with this number is changed, the others stay.
abbrev pub change_sender : ℕ → (Sender → Sender) → Sender → Sender
change_sender terminal change sender = if sender.number == terminal then change sender else sender

-- A sender with this terminal gap.
abbrev pub at_gap : ℕ → Sender → Sender
at_gap tg sender = record { number = sender.number; tg = tg; at = sender.at; sends = sender.sends; takes = sender.takes }

-- The table with this terminal gap of one terminal.
abbrev pub with_gap : ℕ → ℕ → Table → Table
with_gap terminal tg table = with_senders (map (change_sender terminal (at_gap tg)) table.senders) table

-- A SEND line with so many data words at least.
abbrev pub at_least : ℕ → SendLine → SendLine
at_least least line = record { label = line.label; ext = line.ext; least = least; most = line.most }

-- SEND lines of which the one at this place, from 0, has so many data words at least.
abbrev pub at_least_in : ℕ → ℕ → List SendLine → List SendLine
at_least_in place least [] = []
at_least_in zero least (line ∷ lines) = at_least least line ∷ lines
at_least_in (suc place) least (line ∷ lines) = line ∷ at_least_in place least lines

-- A sender of which the SEND line at this place has so many data words at least.
abbrev pub with_line : ℕ → ℕ → Sender → Sender
with_line place least sender =
    record { number = sender.number; tg = sender.tg; at = sender.at; sends = at_least_in place least sender.sends; takes = sender.takes }

-- The table with so many data words at least on the SEND line at this place, from 0, of one terminal.
abbrev pub with_least : ℕ → ℕ → ℕ → Table → Table
with_least terminal place least table = with_senders (map (change_sender terminal (with_line place least)) table.senders) table
