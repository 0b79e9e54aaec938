-- Other offsets for the senders of a table.
use Rattle.std.specs.Prelude.{ℕ, List, [], ◌∷◌}
use Rattle.bus_table.specs.Tables.{Sender, Table}

-- A sender at another offset.
abbrev pub at_offset : ℕ → Sender → Sender
at_offset at sender = record { number = sender.number; tg = sender.tg; at = at; sends = sender.sends; takes = sender.takes }

-- The senders at these offsets, in order; where an offset is missing the sender keeps its own.
abbrev pub at_offsets : List ℕ → List Sender → List Sender
at_offsets [] senders = senders
at_offsets (at ∷ offsets) [] = []
at_offsets (at ∷ offsets) (sender ∷ senders) = at_offset at sender ∷ at_offsets offsets senders

-- The table with these offsets and nothing else changed.
abbrev pub with_offsets : List ℕ → Table → Table
with_offsets offsets table =
    record { mode = table.mode; ti = table.ti; sg = table.sg; senders = at_offsets offsets table.senders; listeners = table.listeners }
