-- What feeds mean for what terminals receive. `laws` says that each of these holds.
use Rattle.std.specs.Prelude.{◌≡◌, ℕ, ◌+◌, ◌≤◌, ◌≢◌, true, false, IsTrue, List, [], ◌∷◌, ◌++◌, length}
use Rattle.std.specs.List.{All, Contains}
use Rattle.bus_strings.specs.Messages.{Wordstring, Entry}
use Rattle.bus_table.specs.declared.line.SendLine.{SendLine}
use Rattle.bus_table.specs.declared.line.TakeLine.{TakeLine}
use Rattle.bus_table.specs.Tables.{Sender, Table}
use Rattle.bus_table.specs.Fits.{fits}
use Rattle.bus_filter.specs.Received.{ReceivedLine, Taker, selection, received_line, heard, received_by}
use Rattle.bus_feeds.specs.Feeds.{feeds, always, sometimes, never, is_fed}

-- A transmission is of a sender of the table, and its message fits that sender.
pub record FitsTable (table : Table) (x : Entry) : Type 0 where
  pub sender : Sender
  pub stands : Contains table.senders sender
  pub number : sender.number ≡ x.terminal
  pub message : IsTrue (fits sender x.message)

-- The terminal of a number with these TAKE lines.
abbrev pub taker_of : ℕ → List TakeLine → Taker
taker_of number takes = record { number = number; takes = takes }

-- A TAKE line of the terminal of a number that nothing feeds gives nothing of any list whose transmissions fit the table.
abbrev pub UnfedGivesNothing : Type 0
UnfedGivesNothing = (table : Table) (list : List Entry) (number : ℕ) (take : TakeLine) → All (FitsTable table) list
    → is_fed table number take ≡ false → received_by list (taker_of number (take ∷ [])) ≡ []

-- With such a TAKE line a terminal receives what it receives without it.
abbrev pub UnfedAddsNothing : Type 0
UnfedAddsNothing = (table : Table) (list : List Entry) (number : ℕ) (before : List TakeLine) (take : TakeLine) (behind : List TakeLine)
    → All (FitsTable table) list → is_fed table number take ≡ false
    → received_by list (taker_of number (before ++ take ∷ behind)) ≡ received_by list (taker_of number (before ++ behind))

-- A received line is what a TAKE line gives of a wordstring that is heard, and this is of a SEND line, of another terminal, that feeds it: all
-- words that always come are in it, and none that never comes.
pub record IsFedLine (table : Table) (list : List Entry) (taker : Taker) (line : ReceivedLine) : Type 0 where
  pub take : TakeLine
  pub takes : Contains taker.takes take
  pub transmission : Entry
  pub is_heard : Contains (heard taker.number list) transmission
  pub string : Wordstring
  pub stands : Contains transmission.message string
  pub gives : line ≡ received_line transmission.moment string take
  pub sender : Sender
  pub sends : Contains table.senders sender
  pub other : sender.number ≢ taker.number
  pub send : SendLine
  pub of_sender : Contains sender.sends send
  pub feeds : feeds send take ≡ true
  pub label : string.label ≡ send.label
  pub ext : string.ext ≡ send.ext
  pub all : always send take ≤ length line.words
  pub none : length line.words + never send take ≤ take.count

-- So is each line that a terminal receives of a list whose transmissions fit the table.
abbrev pub EachLineIsFed : Type 0
EachLineIsFed = (table : Table) (list : List Entry) (taker : Taker) (line : ReceivedLine) → All (FitsTable table) list
    → Contains (received_by list taker) line → IsFedLine table list taker line

-- A transmission gives a received line of a wordstring that has the label and the extension of a SEND line, with all words of the TAKE line
-- that always come.
pub record GivesLine (list : List Entry) (taker : Taker) (x : Entry) (send : SendLine) (take : TakeLine) : Type 0 where
  pub string : Wordstring
  pub stands : Contains x.message string
  pub label : string.label ≡ send.label
  pub ext : string.ext ≡ send.ext
  pub received : Contains (received_by list taker) (received_line x.moment string take)
  pub all : always send take ≤ length (received_line x.moment string take).words

-- So does each transmission that a terminal hears: it is of another terminal, not garbled, and fits a sender whose SEND line feeds the TAKE
-- line.
abbrev pub EachFeedGives : Type 0
EachFeedGives = (list : List Entry) (taker : Taker) (x : Entry) (sender : Sender) (send : SendLine) (take : TakeLine)
    → Contains (heard taker.number list) x → IsTrue (fits sender x.message) → Contains sender.sends send → Contains taker.takes take
    → feeds send take ≡ true → GivesLine list taker x send take

-- A wordstring with the least data words of a SEND line gives the words that always come and no more; one with the most also those that come
-- sometimes.
pub record MeetsShare (send : SendLine) (take : TakeLine) (words : List ℕ) : Type 0 where
  pub least : length words ≡ send.least → length (selection take words) ≡ always send take
  pub most : length words ≡ send.most → length (selection take words) ≡ always send take + sometimes send take

-- So no bound is nearer.
abbrev pub SharesAreMet : Type 0
SharesAreMet = (send : SendLine) (take : TakeLine) (words : List ℕ) → send.least ≤ send.most → MeetsShare send take words
