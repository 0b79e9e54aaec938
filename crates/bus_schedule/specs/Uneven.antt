-- Why hands aren't even: the first sender in turn order, and the first behind it whose number of messages differs.
use Rattle.std.specs.Prelude.{ℕ, ◌==◌, List, [], ◌∷◌, length, Option, Some, None, if◌then◌else◌}
use Rattle.bus_table.specs.Tables.{Sender, Table, Hand}
use Rattle.bus_table.specs.Turns.{turn_order}
use Rattle.bus_schedule.specs.declared.uneven.Uneven.{Uneven}
use Rattle.bus_schedule.specs.Even.{messages_of}

-- How many messages the terminal with this number has.
abbrev pub count_of : List Hand → ℕ → ℕ
count_of hands number = length (messages_of hands number)

-- Two senders, by their numbers, and how many messages each has.
abbrev pub counts_of : List Hand → ℕ → ℕ → Uneven
counts_of hands one other = record { one = one; one_count = count_of hands one; other = other; other_count = count_of hands other }

-- The first of these senders that has another number of messages than this one.
abbrev pub differing : List Hand → ℕ → List Sender → Option Uneven
differing hands one [] = None
differing hands one (other ∷ order) =
    if count_of hands other.number == count_of hands one then differing hands one order else Some (counts_of hands one other.number)

-- The first sender of an order, and the first behind it that has another number of messages.
abbrev pub uneven_in : List Hand → List Sender → Option Uneven
uneven_in hands [] = None
uneven_in hands (first ∷ order) = differing hands first.number order

-- The same in turn order.
abbrev pub uneven_of : Table → List Hand → Option Uneven
uneven_of table hands = uneven_in hands (turn_order table)
