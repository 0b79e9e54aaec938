-- Rounds of an aperiodic table whose senders fall silent when their messages are spent: each round holds those that have a message left,
-- and a silent sender's terminal gap isn't waited for. They are the closed schedule where hands are even, so that all fall silent together.
--
--   |-TG-|message|-TG-|message|--SG--|-TG-|message|--SG--|-TG-|message|
--   0    sender 1     sender 2        sender 2 alone from here on
use Rattle.std.specs.Prelude.{ℕ, suc, ◌+◌, ◌<◌, ◌≤◌, nat_lt, List, length}
use Rattle.std.specs.List.{filter, sum_by}
use Rattle.bus_strings.specs.Messages.{Message, Entry}
use Rattle.bus_table.specs.Lengths.{shortest}
use Rattle.bus_table.specs.Tables.{Sender, Table}
use Rattle.bus_table.specs.Turns.{turn_order}
use Rattle.bus_schedule.specs.Closed.{gap_schedule}

-- The senders of a round, counted from 0, in turn order: those that have more messages than there were rounds before.
abbrev pub live : Table → (ℕ → List Message) → ℕ → List Sender
live table messages round = filter (λ sender. nat_lt round (length (messages sender.number))) (turn_order table)

-- So many rounds of the senders that have a message left, by gaps.
abbrev pub live_rounds : Table → (ℕ → List Message) → ℕ → List Entry
live_rounds table messages n = gap_schedule messages table.sg (live table messages) n

-- A cycle of these senders with their shortest messages, in bit times: one synchronization gap, and each sender's terminal gap and message.
abbrev pub shortest_cycle : Table → List Sender → ℕ
shortest_cycle table senders = table.sg + sum_by (λ sender. sender.tg + shortest sender) senders

-- Each round behind the first that has a sender takes at least one transmit interval from start to start, also with shortest messages.
abbrev pub AreLong : Table → (ℕ → List Message) → Type 0
AreLong table messages =
    (round : ℕ) → 0 < length (live table messages (suc round)) → table.ti ≤ shortest_cycle table (live table messages (suc round))
