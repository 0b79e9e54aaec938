-- What is odd about the TAKE and SEND lines of a table, in sentences, in the order of the table: a TAKE line that nothing feeds, words that
-- it asks for and that a SEND line that feeds it never has, or not always; and the SEND lines that nobody takes. Of a table in which nothing
-- is odd nothing is said.
--   number   that of the terminal whose line it is
use Rattle.std.specs.Prelude.{ℕ, ◌==◌, Bool, ◌||◌, not, List, [], ◌∷◌, ◌++◌, length, Option, Some, None, if◌then◌else◌}
use Rattle.std.specs.List.{flat_map, count_by, list_any, sum_by}
use Rattle.bus_say.specs.Sentences.{said}
use Rattle.bus_table.specs.declared.line.SendLine.{SendLine}
use Rattle.bus_table.specs.declared.line.TakeLine.{TakeLine}
use Rattle.bus_table.specs.Tables.{Sender, Listener, Table}
use Rattle.bus_filter.specs.Received.{Taker, sender_taker, listener_taker}
use Rattle.bus_feeds.specs.Feeds.{feeds, sometimes, never, is_fed, only_itself_sends, is_taken}
use Rattle.bus_takes.specs.declared.wordings.TheConstants as the

-- An extension as a number; 16 stands for every extension, `*`.
abbrev pub ext_number : Option ℕ → ℕ
ext_number (Some ext) = ext
ext_number None = 16

-- The numbers of a TAKE line.
abbrev pub take_numbers : ℕ → TakeLine → List ℕ
take_numbers number take = number ∷ take.label ∷ ext_number take.ext ∷ take.first ∷ take.count ∷ []

-- Those of a TAKE line and a SEND line of another terminal that feeds it, and how many words.
abbrev pub pair_numbers : ℕ → TakeLine → ℕ → SendLine → ℕ → List ℕ
pair_numbers number take other send count =
    number ∷ take.label ∷ ext_number take.ext ∷ take.first ∷ take.count ∷ other ∷ send.ext ∷ send.least ∷ send.most ∷ count ∷ []

-- A sentence about so many words, where there are any.
abbrev pub words_text : List ℕ → ℕ → TakeLine → ℕ → SendLine → ℕ → List ℕ
words_text sentence number take other send count =
    if count == 0 then [] else said sentence (pair_numbers number take other send count)

-- What is odd about a TAKE line and a SEND line that feeds it.
abbrev pub share_text : ℕ → TakeLine → ℕ → SendLine → List ℕ
share_text number take other send =
    words_text the.NEVER_COME.now number take other send (never send take)
    ++ words_text the.SOMETIMES_COME.now number take other send (sometimes send take)

-- The same of any SEND line.
abbrev pub pair_text : ℕ → TakeLine → ℕ → SendLine → List ℕ
pair_text number take other send = if feeds send take then share_text number take other send else []

-- What is odd about a TAKE line and the SEND lines of a sender, unless that is its own terminal.
abbrev pub sender_text : ℕ → TakeLine → Sender → List ℕ
sender_text number take sender =
    if sender.number == number then [] else flat_map (pair_text number take sender.number) sender.sends

-- A sentence about a TAKE line.
abbrev pub line_text : List ℕ → ℕ → TakeLine → List ℕ
line_text sentence number take = said sentence (take_numbers number take)

-- What is said of a TAKE line that nothing feeds.
abbrev pub unfed_text : Table → ℕ → TakeLine → List ℕ
unfed_text table number take =
    if only_itself_sends table number take then line_text the.ITSELF_SENDS.now number take else line_text the.NOBODY_SENDS.now number take

-- What is odd about a TAKE line.
abbrev pub take_text : Table → ℕ → TakeLine → List ℕ
take_text table number take =
    if is_fed table number take then flat_map (sender_text number take) table.senders else unfed_text table number take

-- What is odd about those of a terminal.
abbrev pub taker_text : Table → Taker → List ℕ
taker_text table taker = flat_map (take_text table taker.number) taker.takes

abbrev pub of_sender : Table → Sender → List ℕ
of_sender table sender = taker_text table (sender_taker sender)

abbrev pub of_listener : Table → Listener → List ℕ
of_listener table listener = taker_text table (listener_taker listener)

-- How many SEND lines of a sender nobody takes.
abbrev pub untaken_of : Table → Sender → ℕ
untaken_of table sender = count_by (λ send. not (is_taken table sender.number send)) sender.sends

-- How many of all senders, and how many SEND lines there are.
abbrev pub untaken : Table → ℕ
untaken table = sum_by (untaken_of table) table.senders

abbrev pub all_sends : Table → ℕ
all_sends table = sum_by (λ (sender : Sender). length sender.sends) table.senders

-- A SEND line, if nobody takes it.
abbrev pub send_text : Table → ℕ → SendLine → List ℕ
send_text table number send =
    if is_taken table number send then [] else said the.UNTAKEN.now (number ∷ send.label ∷ send.ext ∷ [])

-- Those of a sender.
abbrev pub sends_text : Table → Sender → List ℕ
sends_text table sender = flat_map (send_text table sender.number) sender.sends

-- The sentence of those that nobody takes, which are so many.
abbrev pub some_text : Table → ℕ → List ℕ
some_text table count =
    said the.NOBODY_TAKES.now [] ++ flat_map (sends_text table) table.senders ++ said the.IN_ALL.now (count ∷ all_sends table ∷ [])

-- Whether a sender has a TAKE line, whether a listener has one, and whether any terminal does.
abbrev pub sender_has_take : Sender → Bool
sender_has_take sender = not (length sender.takes == 0)

abbrev pub listener_has_take : Listener → Bool
listener_has_take listener = not (length listener.takes == 0)

abbrev pub has_take_line : Table → Bool
has_take_line table = list_any sender_has_take table.senders || list_any listener_has_take table.listeners

-- The sentence of so many; where no terminal takes anything, that alone.
abbrev pub count_text : Table → ℕ → List ℕ
count_text table count = if has_take_line table then some_text table count else said the.NO_TAKES.now []

-- The sentence, if there are any.
abbrev pub untaken_text : Table → List ℕ
untaken_text table =
    if untaken table == 0 then [] else count_text table (untaken table)

-- All that is odd about the lines of a table.
abbrev pub takes_text : Table → List ℕ
takes_text table = flat_map (of_sender table) table.senders ++ flat_map (of_listener table) table.listeners ++ untaken_text table
