-- What the titles of wordstrings tell of who takes them. The contract of `laws::receivers_are_named` says that each of these laws holds.
use Rattle.std.specs.Prelude.{◌≡◌, ◌↔◌, ℕ, ◌<◌, ◌≤◌, Bool, List, [], length, if◌then◌else◌}
use Rattle.std.specs.List.{flat_map, zip}
use Rattle.bus_strings.specs.Limits.{most_terminal}
use Rattle.bus_strings.specs.Members.{In}
use Rattle.bus_strings.specs.Messages.{Entry, Wordstring}
use Rattle.bus_strings.specs.Transmissions.{garbled, marks}
use Rattle.bus_table.specs.Tables.{Table}
use Rattle.bus_filter.specs.Received.{ReceivedLine, Taker, is_heard, received_by, string_lines, takers}
use Rattle.bus_shapes.specs.declared.sent.Sent.{Sent}
use Rattle.bus_shapes.specs.SendingLaws.{IsToldOf}
use Rattle.bus_picture.specs.Takings.{taken_by}

-- What a terminal receives of a wordstring of a transmission, which is marked where it is garbled.
abbrev pub string_received : Taker → Entry × Bool → Wordstring → List ReceivedLine
string_received taker marked string = if is_heard taker.number marked then string_lines taker.takes marked.0.moment string else []

-- What a terminal receives of a list is what it receives of each wordstring of each transmission.
abbrev pub ReceivesStrings : Type 0
ReceivesStrings =
    (list : List Entry) (taker : Taker)
    → received_by list taker
    ≡ flat_map (λ (marked : Entry × Bool). flat_map (string_received taker marked) marked.0.message) (zip list (marks list))

-- A terminal of the table with number n receives a line of a wordstring that has words.
pub record ReceivesWords (table : Table) (marked : Entry × Bool) (string : Wordstring) (n : ℕ) : Type 0 where
  pub taker : Taker
  pub of_table : In taker (takers table)
  pub number : taker.number ≡ n
  pub line : ReceivedLine
  pub received : In line (string_received taker marked string)
  pub some : 0 < length line.words

-- The terminals that the title of a wordstring names are those that receive words of it.
abbrev pub NamedReceive : Type 0
NamedReceive =
    (table : Table) (list : List Entry) (x : Sent) (string : Wordstring) (n : ℕ) (told : IsToldOf list x) → 1 ≤ n → n ≤ most_terminal
    → In n (taken_by table x string) ↔ ReceivesWords table (told.entry, garbled list x.at) string n
