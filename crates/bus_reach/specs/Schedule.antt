-- The closed schedule of an aperiodic table and even hands on a cable with length. It knows rounds and no timers.
--
--   at sender 1   wake |-TG-|message 1|.......
--   at sender 2   ..........  later |message 1|-TG-|message 2|
--
--   from   for the number of a terminal: the moment from which it counts its terminal gap
use Rattle.std.specs.Prelude.{ℕ, zero, suc, ◌+◌, List, [], ◌∷◌}
use Rattle.bus_strings.specs.Messages.{Message, Entry}
use Rattle.bus_table.specs.Tables.{Sender, Table, Hand}
use Rattle.bus_table.specs.Turns.{turn_order}
use Rattle.bus_schedule.specs.Closed.{sends, in_rounds}
use Rattle.bus_schedule.specs.Even.{messages_of, rounds}
use Rattle.bus_medium.specs.Delays.{Delays, heard_end}

-- The turns of a round: each sender starts its terminal gap behind where it heard the end of the one before.
abbrev pub cable_turns : Delays → (ℕ → List Message) → ℕ → List Sender → (ℕ → ℕ) → List Entry
cable_turns delay messages round [] from = []
cable_turns delay messages round (sender ∷ order) from =
    sends messages round sender (from sender.number + sender.tg)
    ∷ cable_turns delay messages round order (heard_end delay (sends messages round sender (from sender.number + sender.tg)))

-- Where each terminal heard the end of the last of these turns.
abbrev pub cable_heard : Delays → (ℕ → List Message) → ℕ → List Sender → (ℕ → ℕ) → ℕ → ℕ
cable_heard delay messages round [] from = from
cable_heard delay messages round (sender ∷ order) from =
    cable_heard delay messages round order (heard_end delay (sends messages round sender (from sender.number + sender.tg)))

-- From where each terminal counts in a round: its wake, or one synchronization gap behind where it heard the end of the round before.
abbrev pub cable_origin : Delays → (ℕ → ℕ) → (ℕ → List Message) → ℕ → List Sender → ℕ → ℕ → ℕ
cable_origin delay wake messages sg order zero = wake
cable_origin delay wake messages sg order (suc round) =
    λ number. cable_heard delay messages round order (cable_origin delay wake messages sg order round) number + sg

-- So many rounds.
abbrev pub cable_rounds : Delays → (ℕ → ℕ) → (ℕ → List Message) → ℕ → List Sender → ℕ → List Entry
cable_rounds delay wake messages sg order n =
    in_rounds (λ round. cable_turns delay messages round order (cable_origin delay wake messages sg order round)) n

-- The closed schedule of a table and even hands: as many rounds as each hand has messages.
abbrev pub cable_closed : Delays → (ℕ → ℕ) → Table → List Hand → List Entry
cable_closed delay wake table hands = cable_rounds delay wake (messages_of hands) table.sg (turn_order table) (rounds hands)
