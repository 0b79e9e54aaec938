-- What the terminals of a table receive of a list of transmissions.
--   receive line    what a terminal takes from the wordstrings of others: a TAKE line of the table
--   match           a receive line matches a wordstring of its label, and of its extension or, where it has `*`, of any
--   taker           a terminal of the table, sender or listener, as one that takes words
--   received line   what one match gives
-- A terminal takes nothing from its own messages, nor from garbled ones.
use Rattle.std.specs.Prelude.{ℕ, Bool, true, not, ◌==◌, ◌&&◌, List, ◌++◌, map, take, drop}
use Rattle.std.specs.List.{filter, flat_map, zip}
use Rattle.std.specs.Option.{option_map_or}
use Rattle.bus_strings.specs.Messages.{Wordstring, Entry}
use Rattle.bus_strings.specs.Transmissions.{marks}
use Rattle.bus_table.specs.declared.line.TakeLine.{TakeLine}
use Rattle.bus_table.specs.Tables.{Sender, Listener, Table}

-- What a receive line gives of a wordstring that it matches: the transmission's moment, the label and extension, and the words taken.
pub record ReceivedLine : Type 0 where
  pub moment : ℕ
  pub label : ℕ
  pub ext : ℕ
  pub words : List ℕ

-- A terminal as one that takes words: its number, and its receive lines in order.
pub record Taker : Type 0 where
  pub number : ℕ
  pub takes : List TakeLine

-- Whether a receive line matches the wordstrings of a label and an extension.
abbrev pub matches : TakeLine → ℕ → ℕ → Bool
matches line label ext = line.label == label && option_map_or (λ e. e == ext) line.ext true

-- The selection of a receive line: the words with positions `first` to `first + count - 1`, counted from 0, as far as they exist.
abbrev pub selection : TakeLine → List ℕ → List ℕ
selection line words = take line.count (drop line.first words)

-- What a receive line takes of a wordstring that it matches, in a transmission of this moment.
abbrev pub received_line : ℕ → Wordstring → TakeLine → ReceivedLine
received_line moment string line =
    record { moment = moment; label = string.label; ext = string.ext; words = selection line string.words }

-- Of a wordstring: one received line for each receive line that matches, in their order.
abbrev pub string_lines : List TakeLine → ℕ → Wordstring → List ReceivedLine
string_lines takes moment string = map (received_line moment string) (filter (λ line. matches line string.label string.ext) takes)

-- Of a transmission: its wordstrings in order.
abbrev pub entry_lines : List TakeLine → Entry → List ReceivedLine
entry_lines takes x = flat_map (string_lines takes x.moment) x.message

-- Whether a terminal takes words of a transmission, which is marked where it is garbled: it isn't its own, nor garbled.
abbrev pub is_heard : ℕ → Entry × Bool → Bool
is_heard number marked = not marked.1 && not (marked.0.terminal == number)

-- The transmissions of a list that a terminal takes words of, in order.
abbrev pub heard : ℕ → List Entry → List Entry
heard number list = map (λ (marked : Entry × Bool). marked.0) (filter (is_heard number) (zip list (marks list)))

-- What a taker receives of a list, line by line.
abbrev pub received_by : List Entry → Taker → List ReceivedLine
received_by list taker = flat_map (entry_lines taker.takes) (heard taker.number list)

-- A sender as one that takes words.
abbrev pub sender_taker : Sender → Taker
sender_taker sender = record { number = sender.number; takes = sender.takes }

-- A listener as one that takes words.
abbrev pub listener_taker : Listener → Taker
listener_taker listener = record { number = listener.number; takes = listener.takes }

-- The terminals of a table: its senders in table order, then its listeners.
abbrev pub takers : Table → List Taker
takers table = map sender_taker table.senders ++ map listener_taker table.listeners

-- What the terminal of a number receives of a list, line by line.
abbrev pub received : Table → List Entry → ℕ → List ReceivedLine
received table list number = flat_map (received_by list) (filter (λ taker. taker.number == number) (takers table))
