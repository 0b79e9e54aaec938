-- The drop-out schedule of an aperiodic table and hands that need not be even, by this project's profile: senders fall silent when their
-- messages are spent.
--   rounds   of the senders that have a message left, as bus_schedule defines them: the first start of the first round comes a terminal
--            gap behind moment 0, each other in a round a terminal gap behind the last end, the first of each next round a synchronization
--            gap and a terminal gap behind it
use Rattle.std.specs.Prelude.{ℕ, max, ◌==◌, nat_lt, List, [], ◌∷◌, length, Option, Some, None, IfSome, ◌≤◌, if◌then◌else◌}
use Rattle.std.specs.List.{filter}
use Rattle.bus_strings.specs.Marking.{greatest_end}
use Rattle.bus_strings.specs.Messages.{Entry}
use Rattle.bus_table.specs.Tables.{Sender, Table, Hand}
use Rattle.bus_schedule.specs.Even.{messages_of}
use Rattle.bus_schedule.specs.Live.{live_rounds, shortest_cycle}
use Rattle.bus_schedule.specs.Uneven.{count_of}

-- The greatest number of messages in a hand: so many rounds there are.
abbrev pub most_messages : List Hand → ℕ
most_messages [] = 0
most_messages (hand ∷ hands) = max (length hand.messages) (most_messages hands)

-- The drop-out schedule.
abbrev pub dropout : Table → List Hand → List Entry
dropout table hands = live_rounds table (messages_of hands) (most_messages hands)

-- Its end: the greatest moment at which one of its transmissions ends, and 0 where there is none.
abbrev pub drop_end : Table → List Hand → ℕ
drop_end table hands = greatest_end (dropout table hands)

-- The senders with the most messages, in the order of the table: they alone are left in the last round.
abbrev pub last_senders : Table → List Hand → List Sender
last_senders table hands = filter (λ sender. count_of hands sender.number == most_messages hands) table.senders

-- The last cycle, of their shortest messages, where some sender has two messages or more.
abbrev pub last_cycle : Table → List Hand → Option ℕ
last_cycle table hands = if nat_lt 1 (most_messages hands) then Some (shortest_cycle table (last_senders table hands)) else None

-- The last cycle, where there is one, is at least the transmit interval.
abbrev pub LastIsLong : Table → List Hand → Type 0
LastIsLong table hands = IfSome (last_cycle table hands) (λ least. table.ti ≤ least)
