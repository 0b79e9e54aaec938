-- The received text as it is put, and its lines as they are counted. That these are the text and its count is proved in `proofs/`.
use Rattle.std.specs.Prelude.{ℕ, Bool, List, [], length, count_by, if◌then◌else◌}
use Rattle.std.specs.List.{flat_map, sum_by}
use Rattle.bus_strings.specs.Messages.{Wordstring, Entry}
use Rattle.bus_table.specs.declared.line.TakeLine.{TakeLine}
use Rattle.bus_table.specs.Tables.{Sender, Listener}
use Rattle.bus_filter.specs.Received.{Taker, matches, received_line, is_heard, received_by, sender_taker, listener_taker}
use Rattle.bus_filter.specs.ReceivedTexts.{line_text, taker_text}

-- The RX line of a receive line, where it matches.
abbrev pub take_put : ℕ → Wordstring → TakeLine → List ℕ
take_put moment string line = if matches line string.label string.ext then line_text (received_line moment string line) else []

-- The RX lines of a wordstring.
abbrev pub string_put : List TakeLine → ℕ → Wordstring → List ℕ
string_put takes moment string = flat_map (take_put moment string) takes

-- The RX lines of a transmission.
abbrev pub entry_put : List TakeLine → Entry → List ℕ
entry_put takes x = flat_map (string_put takes x.moment) x.message

-- The RX lines of a transmission that is marked where it is garbled.
abbrev pub marked_put : Taker → Entry × Bool → List ℕ
marked_put taker marked = if is_heard taker.number marked then entry_put taker.takes marked.0 else []

-- A sender, and what it receives.
abbrev pub sender_put : List Entry → Sender → List ℕ
sender_put list sender = taker_text list (sender_taker sender)

-- A listener, and what it receives.
abbrev pub listener_put : List Entry → Listener → List ℕ
listener_put list listener = taker_text list (listener_taker listener)

-- How many RX lines a wordstring gives.
abbrev pub string_count : List TakeLine → Wordstring → ℕ
string_count takes string = count_by (λ line. matches line string.label string.ext) takes

-- How many RX lines a transmission gives that is marked where it is garbled.
abbrev pub marked_count : Taker → Entry × Bool → ℕ
marked_count taker marked = if is_heard taker.number marked then sum_by (string_count taker.takes) marked.0.message else 0

-- How many RX lines a terminal has.
abbrev pub taker_count : List Entry → Taker → ℕ
taker_count list taker = length (received_by list taker)

-- How many RX lines a sender has.
abbrev pub sender_count : List Entry → Sender → ℕ
sender_count list sender = taker_count list (sender_taker sender)

-- How many RX lines a listener has.
abbrev pub listener_count : List Entry → Listener → ℕ
listener_count list listener = taker_count list (listener_taker listener)
