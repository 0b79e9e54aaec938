-- The plan of a periodic table: the least interval in which its senders keep their gaps, and the order and the offsets for it, by this
-- project's profile.
--
-- Each sender needs its turn: its terminal gap and its longest message. Beside that each must find a synchronization gap, before its own
-- terminal gap or in another sender's gap. Either one gap is longer by a synchronization gap: its sender finds it there, the others too.
--
--   |--longest 1--|tg 2|--longest 2--|    sg    |tg 1|--longest 1--|
--
-- Or two gaps are synchronization gaps in place of their senders' terminal gaps: each of the two senders finds it in the other's place.
--
--   |--longest 1--|    sg    |--longest 2--|    sg    |--longest 1--|
--
-- That saves the two terminal gaps, and so is the lesser where they are more than one synchronization gap. The two greatest save most.
use Rattle.std.specs.Prelude.{ℕ, ◌+◌, ◌-◌, ◌*◌, ◌==◌, nat_lt, nat_le, List, [], ◌∷◌, map, if◌then◌else◌}
use Rattle.std.specs.List.{sum_by}
use Rattle.bus_table.specs.Tables.{Sender, Table}
use Rattle.bus_table.specs.Lengths.{longest}
use Rattle.bus_table.specs.Offsets.{at_offset, with_offsets}

-- A sender's turn: its terminal gap and its longest message.
abbrev pub turn_time : Sender → ℕ
turn_time sender = sender.tg + longest sender

-- A sender before others, of which the second list has the one with the greatest terminal gap at its head: it stays at the head where
-- its own is greater, and else it goes behind that one.
abbrev pub lead : Sender → List Sender → List Sender → List Sender
lead a others [] = a ∷ []
lead a others (b ∷ rest) = if nat_lt b.tg a.tg then a ∷ others else b ∷ a ∷ rest

-- The sender with the greatest terminal gap goes to the front, the others keep their order.
abbrev pub greatest_first : List Sender → List Sender
greatest_first [] = []
greatest_first (a ∷ others) = lead a others (greatest_first others)

-- The greatest of those behind the first goes to the second place.
abbrev pub second_greatest : List Sender → List Sender
second_greatest [] = []
second_greatest (a ∷ others) = a ∷ greatest_first others

-- The planned order: the sender with the greatest terminal gap, the one with the second greatest, then the others in table order.
abbrev pub planned_order : List Sender → List Sender
planned_order senders = second_greatest (greatest_first senders)

-- What an interval needs beside the turns of these senders, which stand in planned order: one synchronization gap more, or two in place
-- of the two greatest terminal gaps, whichever is less.
abbrev pub sync_time : ℕ → List Sender → ℕ
sync_time sg [] = sg
sync_time sg (a ∷ []) = sg
sync_time sg (a ∷ b ∷ others) = if nat_le (a.tg + b.tg) sg then sg else 2 * sg - (a.tg + b.tg)

-- The least interval: each sender's turn, and what synchronization needs.
abbrev pub least_interval : Table → ℕ
least_interval table = sum_by turn_time table.senders + sync_time table.sg (planned_order table.senders)

-- Each sender starts its terminal gap behind the longest end of the one before it, which is `end` for the first.
abbrev pub behind : ℕ → List Sender → List Sender
behind end [] = []
behind end (sender ∷ others) = at_offset (end + sender.tg) sender ∷ behind (end + sender.tg + longest sender) others

-- The gap before the second sender: its terminal gap, or the synchronization gap where the two are more than that.
abbrev pub second_gap : ℕ → Sender → Sender → ℕ
second_gap sg a b = if nat_le (a.tg + b.tg) sg then b.tg else sg

-- The senders of a planned order at their offsets: the first at 0, each other behind the longest end of the one before it.
abbrev pub planned : ℕ → List Sender → List Sender
planned sg [] = []
planned sg (a ∷ []) = at_offset 0 a ∷ []
planned sg (a ∷ b ∷ others) =
    at_offset 0 a ∷ at_offset (longest a + second_gap sg a b) b ∷ behind (longest a + second_gap sg a b + longest b) others

-- The offset of the sender with this number.
abbrev pub offset_in : List Sender → ℕ → ℕ
offset_in [] number = 0
offset_in (sender ∷ senders) number = if sender.number == number then sender.at else offset_in senders number

-- The planned offsets, in table order.
abbrev pub planned_offsets : Table → List ℕ
planned_offsets table = map (λ sender. offset_in (planned table.sg (planned_order table.senders)) sender.number) table.senders

-- The planned table: the given one but for its offsets.
abbrev pub planned_table : Table → Table
planned_table table = with_offsets (planned_offsets table) table
