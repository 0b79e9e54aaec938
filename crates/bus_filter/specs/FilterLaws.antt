-- What follows of the definitions of received words. `laws` says that each of these holds.
use Rattle.std.specs.Prelude.{◌≡◌, ◌<◌, IsTrue, List, [], if◌then◌else◌}
use Rattle.std.specs.List.{Contains}
use Rattle.bus_strings.specs.Messages.{Wordstring, Entry, words_of}
use Rattle.bus_table.specs.declared.line.TakeLine.{TakeLine}
use Rattle.bus_table.specs.Tables.{Table}
use Rattle.bus_table.specs.Valid.{is_valid}
use Rattle.bus_filter.specs.Received.{Taker, matches, selection, received_by, takers, received}
use Rattle.bus_filter.specs.Hearing.{unmatched, answers, kept}

-- Over the words of one wordstring, the kept words are the selection where the line matches it, and none else.
abbrev pub KeepsSelection : Type 0
KeepsSelection = (line : TakeLine) (string : Wordstring) → string.ext < 16
    → kept (answers (unmatched line) (words_of string)) ≡ (if matches line string.label string.ext then selection line string.words else [])

-- What the terminal of a number receives is what its receive lines take: no other terminal of a valid table has that number.
abbrev pub ReceivesByNumber : Type 0
ReceivesByNumber = (table : Table) (list : List Entry) (taker : Taker) → IsTrue (is_valid table) → Contains (takers table) taker
    → received table list taker.number ≡ received_by list taker
