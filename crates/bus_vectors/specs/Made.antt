-- The table and the messages that a number makes: a large input that is accepted and fits, for a drill. All of it is this project's own.
--   number   from 0 to 9999
--   i        a sender, from 1
--   round    from 0
use Rattle.std.specs.Prelude.{ℕ, ◌+◌, ◌*◌, ◌-◌, ◌%◌, List, [], ◌∷◌, map, None}
use Rattle.std.specs.List.{flat_map, range_with_len, sum_by}
use Rattle.bus_strings.specs.Items.{Item}
use Rattle.bus_strings.specs.Limits.{most_terminal}
use Rattle.bus_table.specs.declared.mode.Mode.TheVariants.{Aperiodic}
use Rattle.bus_table.specs.declared.line.SendLine.{SendLine}
use Rattle.bus_table.specs.declared.line.TakeLine.{TakeLine}
use Rattle.bus_table.specs.Tables.{Sender, Listener, Table}

-- The greatest number.
abbrev pub most_number : ℕ
most_number = 9999

-- How many senders there are: 2 to 31.
abbrev pub sender_count : ℕ → ℕ
sender_count number = 2 + number % 30

-- How many messages each of them has: 10 to 500.
abbrev pub round_count : ℕ → ℕ
round_count number = 10 + 10 * (number % 50)

-- ---- the table
-- The senders' numbers, from 1 on.
abbrev pub sender_numbers : ℕ → List ℕ
sender_numbers senders = range_with_len 1 senders

-- The wordstring of a sender: 30 to 40 data words.
abbrev pub made_send : ℕ → SendLine
made_send i = record { label = 256 + i; ext = i % 16; least = 30; most = 40 }

-- A sender: its terminal gap is 4 bit times longer than that of the sender before, and it takes nothing.
abbrev pub made_sender : ℕ → Sender
made_sender i = record { number = i; tg = 8 + 4 * (i - 1); at = 0; sends = made_send i ∷ []; takes = [] }

-- What the listener takes of a sender: its first four data words.
abbrev pub made_take : ℕ → TakeLine
made_take i = record { label = 256 + i; ext = None; first = 0; count = 4 }

-- The one listener, which takes from each of so many senders.
abbrev pub made_listener : ℕ → Listener
made_listener senders = record { number = most_terminal; takes = map made_take (sender_numbers senders) }

-- The synchronization gap.
abbrev pub made_gap : ℕ
made_gap = 300

-- The cycle of shortest messages, of 620 bit times each, of these senders.
abbrev pub made_cycle : List Sender → ℕ
made_cycle senders = made_gap + sum_by (λ sender. sender.tg + 620) senders

-- So many senders.
abbrev pub made_senders : ℕ → List Sender
made_senders senders = map made_sender (sender_numbers senders)

-- The aperiodic table of so many senders, whose transmit interval is just its shortest cycle.
abbrev pub table_of : ℕ → Table
table_of senders = record {
  mode = Aperiodic;
  ti = made_cycle (made_senders senders);
  sg = made_gap;
  senders = made_senders senders;
  listeners = made_listener senders ∷ [];
}

-- The table of a number.
abbrev pub made_table : ℕ → Table
made_table number = table_of (sender_count number)

-- ---- the messages
-- How many data words sender i sends in a round.
abbrev pub word_count : (number round i : ℕ) → ℕ
word_count number round i = 30 + (number + round + i) % 11

-- The data word at a place, from 0.
abbrev pub made_word : (number round i place : ℕ) → ℕ
made_word number round i place = (number + 7 * round + 13 * i + place) % 65536

-- The data words of sender i in a round.
abbrev pub made_words : (number round i : ℕ) → List ℕ
made_words number round i = map (made_word number round i) (range_with_len 0 (word_count number round i))

-- The item of sender i in a round.
abbrev pub made_item : (number round i : ℕ) → Item
made_item number round i = record { terminal = i; strings = made_words number round i ∷ [] }

-- The items of a round: one for each sender, by rising number.
abbrev pub made_round : (number round : ℕ) → List Item
made_round number round = map (made_item number round) (sender_numbers (sender_count number))

-- The items of a number, round by round.
abbrev pub made_items : ℕ → List Item
made_items number = flat_map (made_round number) (range_with_len 0 (round_count number))
