-- The gaps of a periodic table, in turn order and with longest messages, by this project's profile.
--
--   |--longest 1--|  gap  |--longest 2--|          gap          |--longest 1--|
--   at of 1               at of 2                               ti + at of 1
--
-- The gap before the first sender goes over the end of the interval: it begins where the last sender's message ended in the interval
-- before. So both ends of every gap are told one interval later, as plain numbers. A gap that ends before it begins is an overlap.
-- One sender alone has the gap between its own messages.
use Rattle.std.specs.Prelude.{ℕ, ◌+◌, ℤ, pos, ◌-ℤ◌, Bool, nat_le, List, [], ◌∷◌}
use Rattle.bus_table.specs.Tables.{Sender, Table}
use Rattle.bus_table.specs.Turns.{turn_order}
use Rattle.bus_table.specs.Lengths.{longest}

-- The gap before a sender: from the end of the sender before it to the sender's own start.
pub record Gap : Type 0 where
  pub sender : Sender
  pub from : ℕ
  pub to : ℕ

-- The end of a sender's longest message in the first interval.
abbrev pub latest_end : Sender → ℕ
latest_end sender = sender.at + longest sender

-- The end of the last of these senders, or `end` where there is none.
abbrev pub last_end : ℕ → List Sender → ℕ
last_end end [] = end
last_end end (sender ∷ order) = last_end (latest_end sender) order

-- The gaps before these senders, one interval later, where the sender before the first of them ends at `from`.
abbrev pub gaps_from : ℕ → ℕ → List Sender → List Gap
gaps_from ti from [] = []
gaps_from ti from (sender ∷ order) =
    record { sender = sender; from = from; to = ti + sender.at } ∷ gaps_from ti (ti + latest_end sender) order

-- The gaps of a table, in turn order.
abbrev pub gaps : Table → List Gap
gaps table = gaps_from table.ti (last_end 0 (turn_order table)) (turn_order table)

-- Whether a gap has at least this many bit times.
abbrev pub has_width : ℕ → Gap → Bool
has_width n gap = nat_le (gap.from + n) gap.to

-- The bit times of a gap, below 0 where it is an overlap.
abbrev pub width : Gap → ℤ
width gap = pos gap.to -ℤ pos gap.from
