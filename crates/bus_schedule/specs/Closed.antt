-- The closed schedule of a table and even hands, by this project's profile: who starts when, as sums of gaps and messages in aperiodic
-- mode, and as multiples of the transmit interval in periodic mode. It knows rounds and no timers.
--
--   aperiodic  |-TG-|message|-TG-|message|--SG--|-TG-|message|-TG-|message|
--              0    sender 1     sender 2  end   the next round
--
--   periodic   |message|..|message|....|message|..|message|....
--              AT of 1    AT of 2      TI + AT of 1
--
--   even       hands are even where each sender has as many messages as any other
--   round      one message of each sender: the first round has the first of each hand, and so on. Rounds are counted from 0
--   messages   the messages of each terminal, by its number
--   order      the senders in turn order
use Rattle.std.specs.Prelude.{ℕ, zero, suc, ◌+◌, ◌*◌, List, [], ◌∷◌, ◌++◌, map, get_or}
use Rattle.bus_strings.specs.Marking.{greatest_end}
use Rattle.bus_strings.specs.Messages.{Message, Entry}
use Rattle.bus_strings.specs.Transmissions.{end_of}
use Rattle.bus_table.specs.declared.mode.Mode.{Mode}
use Rattle.bus_table.specs.declared.mode.Mode.TheVariants.{Aperiodic, Periodic}
use Rattle.bus_table.specs.Tables.{Sender, Table, Hand}
use Rattle.bus_table.specs.Turns.{turn_order}
use Rattle.bus_schedule.specs.Even.{messages_of, rounds}

-- The transmission of a message of a sender, from a moment on.
abbrev pub sent_at : Sender → Message → ℕ → Entry
sent_at sender message moment = record { moment = moment; terminal = sender.number; message = message }

-- The transmission of a sender's message of this round, from a moment on.
abbrev pub sends : (ℕ → List Message) → ℕ → Sender → ℕ → Entry
sends messages round sender moment = sent_at sender (get_or (messages sender.number) round []) moment

-- The turns of an aperiodic round: each sender starts its terminal gap behind the end of the one before, which is `from` for the first.
abbrev pub turns : (ℕ → List Message) → ℕ → List Sender → ℕ → List Entry
turns messages round [] from = []
turns messages round (sender ∷ order) from =
    sends messages round sender (from + sender.tg) ∷ turns messages round order (end_of (sends messages round sender (from + sender.tg)))

-- The moment at which the last of these turns ends, or `from` where there is none.
abbrev pub turns_end : (ℕ → List Message) → ℕ → List Sender → ℕ → ℕ
turns_end messages round [] from = from
turns_end messages round (sender ∷ order) from = turns_end messages round order (end_of (sends messages round sender (from + sender.tg)))

-- The moment from which an aperiodic round counts: the settled start, or one synchronization gap behind the end of the round before. The
-- order of each round gives its senders.
abbrev pub origin : (ℕ → List Message) → ℕ → (ℕ → List Sender) → ℕ → ℕ
origin messages sg order zero = 0
origin messages sg order (suc round) = turns_end messages round (order round) (origin messages sg order round) + sg

-- The turns of a periodic round: each sender starts at its offset in the interval that begins at moment `base`.
abbrev pub offset_turns : (ℕ → List Message) → ℕ → List Sender → ℕ → List Entry
offset_turns messages round order base = map (λ sender. sends messages round sender (base + sender.at)) order

-- So many rounds, one after the other.
abbrev pub in_rounds : (ℕ → List Entry) → ℕ → List Entry
in_rounds round zero = []
in_rounds round (suc n) = in_rounds round n ++ round n

-- So many rounds by gaps.
abbrev pub gap_schedule : (ℕ → List Message) → ℕ → (ℕ → List Sender) → ℕ → List Entry
gap_schedule messages sg order n = in_rounds (λ round. turns messages round (order round) (origin messages sg order round)) n

-- So many rounds by offsets, one each transmit interval.
abbrev pub offset_schedule : (ℕ → List Message) → ℕ → List Sender → ℕ → List Entry
offset_schedule messages ti order n = in_rounds (λ round. offset_turns messages round order (round * ti)) n

-- So many rounds of a table in a mode, of these messages.
abbrev pub schedule_in : Mode → Table → (ℕ → List Message) → ℕ → List Entry
schedule_in Aperiodic table messages n = gap_schedule messages table.sg (λ round. turn_order table) n
schedule_in Periodic table messages n = offset_schedule messages table.ti (turn_order table) n

-- The closed schedule of a table and even hands: as many rounds as each hand has messages. It ascends by moment, then terminal.
abbrev pub closed : Table → List Hand → List Entry
closed table hands = schedule_in table.mode table (messages_of hands) (rounds hands)

-- The closed end: the greatest moment at which one of its transmissions ends, and 0 where there is none.
abbrev pub closed_end : Table → List Hand → ℕ
closed_end table hands = greatest_end (closed table hands)
