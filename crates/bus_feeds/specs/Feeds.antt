-- Which SEND lines feed a TAKE line, and how many of its words each of them gives.
--   feeds      the label is the same, and so is the extension, or the TAKE line has `*`: the TAKE line matches what is sent
--   always     the words of the TAKE line that stand below the least data words of the SEND line: they come in each such wordstring
--   sometimes  those from there to below the most data words
--   never      those behind the most
--   from       a place: a walk goes on from it
-- A terminal takes nothing from its own messages, so only the SEND lines of others feed a TAKE line of its own.
use Rattle.std.specs.Prelude.{ℕ, ◌+◌, ◌-◌, min, Bool, not, ◌==◌, ◌&&◌, List, drop, Option}
use Rattle.std.specs.List.{list_any, position}
use Rattle.std.specs.Option.{option_map}
use Rattle.bus_table.specs.declared.line.SendLine.{SendLine}
use Rattle.bus_table.specs.declared.line.TakeLine.{TakeLine}
use Rattle.bus_table.specs.Tables.{Sender, Listener, Table}
use Rattle.bus_filter.specs.Received.{Taker, matches, sender_taker, listener_taker, takers}
use Rattle.bus_feeds.specs.declared.share.Share.{Share}

-- Whether a SEND line feeds a TAKE line.
abbrev pub feeds : SendLine → TakeLine → Bool
feeds send take = matches take send.label send.ext

-- How many words a TAKE line takes of a wordstring of so many data words.
abbrev pub taken_of : TakeLine → ℕ → ℕ
taken_of take words = min take.count (words - take.first)

-- How many words of a TAKE line always, sometimes and never come with a SEND line, whose least isn't above its most.
abbrev pub always : SendLine → TakeLine → ℕ
always send take = taken_of take send.least

abbrev pub sometimes : SendLine → TakeLine → ℕ
sometimes send take = taken_of take send.most - taken_of take send.least

abbrev pub never : SendLine → TakeLine → ℕ
never send take = take.count - taken_of take send.most

-- The three together.
abbrev pub share_of : SendLine → TakeLine → Share
share_of send take = record { always = always send take; sometimes = sometimes send take; never = never send take }

-- Whether a sender has a SEND line that feeds a TAKE line.
abbrev pub has_feed : TakeLine → Sender → Bool
has_feed take sender = list_any (λ send. feeds send take) sender.sends

-- Whether a sender feeds a TAKE line of the terminal of a number: it is another, and has a SEND line that does.
abbrev pub is_feeder : ℕ → TakeLine → Sender → Bool
is_feeder number take sender = not (sender.number == number) && has_feed take sender

-- Whether a sender is the terminal of a number itself, and has a SEND line that would feed the TAKE line.
abbrev pub is_own_feed : ℕ → TakeLine → Sender → Bool
is_own_feed number take sender = sender.number == number && has_feed take sender

-- Whether anything feeds a TAKE line of the terminal of a number.
abbrev pub is_fed : Table → ℕ → TakeLine → Bool
is_fed table number take = list_any (is_feeder number take) table.senders

-- Whether only the terminal itself sends what the TAKE line asks for.
abbrev pub only_itself_sends : Table → ℕ → TakeLine → Bool
only_itself_sends table number take = list_any (is_own_feed number take) table.senders && not (is_fed table number take)

-- The place of the first that passes a test, at `from` or behind it.
abbrev pub next : {A : Type 0} → (A → Bool) → List A → ℕ → Option ℕ
next test xs from = option_map (λ k. from + k) (position test (drop from xs))

-- The place of the next sender that feeds a TAKE line of the terminal of a number.
abbrev pub next_feeder : Table → ℕ → TakeLine → ℕ → Option ℕ
next_feeder table number take from = next (is_feeder number take) table.senders from

-- The place of the next SEND line of a sender that feeds a TAKE line.
abbrev pub next_feed : Sender → TakeLine → ℕ → Option ℕ
next_feed sender take from = next (λ send. feeds send take) sender.sends from

-- Whether TAKE lines have one that a SEND line feeds.
abbrev pub has_take : SendLine → List TakeLine → Bool
has_take send takes = list_any (feeds send) takes

-- Whether a terminal takes words of a SEND line of the terminal of a number: it is another, and has a TAKE line that is fed.
abbrev pub takes_from : ℕ → SendLine → Taker → Bool
takes_from number send taker = not (taker.number == number) && has_take send taker.takes

-- The same of a sender, and of a listener.
abbrev pub sender_takes : ℕ → SendLine → Sender → Bool
sender_takes number send sender = takes_from number send (sender_taker sender)

abbrev pub listener_takes : ℕ → SendLine → Listener → Bool
listener_takes number send listener = takes_from number send (listener_taker listener)

-- Whether any terminal takes words of a SEND line of the terminal of a number.
abbrev pub is_taken : Table → ℕ → SendLine → Bool
is_taken table number send = list_any (takes_from number send) (takers table)

-- The place of the next sender that takes words of a SEND line of the terminal of a number.
abbrev pub next_sender : Table → ℕ → SendLine → ℕ → Option ℕ
next_sender table number send from = next (sender_takes number send) table.senders from

-- The place of the next listener that does.
abbrev pub next_listener : Table → ℕ → SendLine → ℕ → Option ℕ
next_listener table number send from = next (listener_takes number send) table.listeners from
