-- The TAKE lines of a table, with what feeds each, and who takes a SEND line.
--   number   that of the terminal whose line it is
use Rattle.std.specs.Prelude.{ℕ, ◌+◌, ◌==◌, List, [], ◌∷◌, ◌++◌, map, codes, Option, Some, None, if◌then◌else◌}
use Rattle.std.specs.List.{filter, flat_map}
use Rattle.serde_json.specs.Data.{Data, null, string, object, member, no_members}
use Rattle.bus_text.specs.Digits.{hexadecimal, hex_digit}
use Rattle.bus_table.specs.declared.line.SendLine.{SendLine}
use Rattle.bus_table.specs.declared.line.TakeLine.{TakeLine}
use Rattle.bus_table.specs.Tables.{Sender, Listener, Table}
use Rattle.bus_filter.specs.Received.{Taker, sender_taker, listener_taker}
use Rattle.bus_feeds.specs.Feeds.{feeds, always, sometimes, never, sender_takes, listener_takes}
use Rattle.bus_facts.specs.Values.{count, list}

-- The extension of a TAKE line; null where it has `*`, for every extension.
abbrev pub ext_or_null : Option ℕ → Data
ext_or_null (Some ext) = string (hex_digit ext ∷ [])
ext_or_null None = null

-- A SEND line of a terminal that feeds a TAKE line, and how many words of that always come with it, at most, and never.
abbrev pub feed_value : ℕ → TakeLine → SendLine → Data
feed_value other take send =
    object (member (codes "always") (count (always send take))
    (member (codes "ext") (string (hex_digit send.ext ∷ []))
    (member (codes "label") (string (hexadecimal 3 send.label))
    (member (codes "most") (count (always send take + sometimes send take))
    (member (codes "never") (count (never send take))
    (member (codes "terminal") (count other) no_members))))))

-- Those of these lines that feed it.
abbrev pub feed_values : ℕ → TakeLine → List SendLine → List Data
feed_values other take sends = map (feed_value other take) (filter (λ send. feeds send take) sends)

-- Those of a sender that is another terminal.
abbrev pub feeder_values : ℕ → TakeLine → Sender → List Data
feeder_values number take sender = if sender.number == number then [] else feed_values sender.number take sender.sends

-- A TAKE line, with all that feeds it.
abbrev pub take_value : Table → ℕ → TakeLine → Data
take_value table number take =
    object (member (codes "count") (count take.count)
    (member (codes "ext") (ext_or_null take.ext)
    (member (codes "feeds") (list (flat_map (feeder_values number take) table.senders))
    (member (codes "first") (count take.first)
    (member (codes "label") (string (hexadecimal 3 take.label))
    (member (codes "terminal") (count number) no_members))))))

-- Those of a terminal.
abbrev pub taker_values : Table → Taker → List Data
taker_values table taker = map (take_value table taker.number) taker.takes

-- Those of all terminals, as they stand in the table.
abbrev pub takes_value : Table → Data
takes_value table =
    list (flat_map (λ sender. taker_values table (sender_taker sender)) table.senders
    ++ flat_map (λ listener. taker_values table (listener_taker listener)) table.listeners)

-- The numbers of the terminals that take words of a SEND line, as they stand in the table.
abbrev pub sender_numbers : ℕ → SendLine → List Sender → List Data
sender_numbers number send senders = map (λ (sender : Sender). count sender.number) (filter (sender_takes number send) senders)

abbrev pub listener_numbers : ℕ → SendLine → List Listener → List Data
listener_numbers number send listeners = map (λ (listener : Listener). count listener.number) (filter (listener_takes number send) listeners)

abbrev pub taken_values : Table → ℕ → SendLine → List Data
taken_values table number send = sender_numbers number send table.senders ++ listener_numbers number send table.listeners

abbrev pub taken_by_value : Table → ℕ → SendLine → Data
taken_by_value table number send = list (taken_values table number send)
