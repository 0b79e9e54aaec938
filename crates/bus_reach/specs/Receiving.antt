-- What terminals receive of runs: with delays that a table bears the same as without.
use Rattle.std.specs.Prelude.{◌≡◌, ◌≢◌, ℕ, ◌==◌, IsTrue, List, [], map, if◌then◌else◌}
use Rattle.std.specs.List.{flat_map}
use Rattle.bus_strings.specs.Members.{In}
use Rattle.bus_strings.specs.Messages.{Wordstring, Entry}
use Rattle.bus_table.specs.declared.line.TakeLine.{TakeLine}
use Rattle.bus_table.specs.declared.mode.Mode.TheVariants.{Aperiodic, Periodic}
use Rattle.bus_table.specs.Tables.{Table, Hand, sender_numbers}
use Rattle.bus_table.specs.Valid.{is_valid}
use Rattle.bus_medium.specs.Delays.{Delays, AreDelays, HearsWithin, later, heard}
use Rattle.bus_medium.specs.Wakes.{Wakes, AreWakes}
use Rattle.bus_regime.specs.Verdicts.{verdict_of, is_accepted}
use Rattle.bus_schedule.specs.CableRuns.{clear_within}
use Rattle.bus_schedule.specs.Closed.{closed}
use Rattle.bus_schedule.specs.Even.{are_even}
use Rattle.bus_filter.specs.Received.{ReceivedLine, Taker, matches, received_line, entry_lines, received_by}
use Rattle.bus_reach.specs.Bearing.{bears}
use Rattle.bus_reach.specs.Schedule.{cable_closed}

-- What a received line has beside its moment: the label, the extension and the words.
abbrev pub content : ReceivedLine → ℕ × ℕ × List ℕ
content line = (line.label, line.ext, line.words)

-- A taker receives the same of both lists, line by line, but for the moments.
abbrev pub ReceivesAlike : Taker → List Entry → List Entry → Type 0
ReceivesAlike taker list other = map content (received_by list taker) ≡ map content (received_by other taker)

-- With delays between its senders and wakes up to what an accepted aperiodic table bears each terminal that hears every sender soon enough
-- receives the same of the closed schedule as without.
abbrev pub AperiodicBorneIsReceived : Type 0
AperiodicBorneIsReceived =
    (table : Table) (hands : List Hand) (most : ℕ) (delay : Delays) (wake : Wakes) (taker : Taker) → IsTrue (is_valid table)
    → table.mode ≡ Aperiodic → IsTrue (is_accepted (verdict_of table)) → IsTrue (are_even table hands)
    → AreDelays most (sender_numbers table) delay → AreWakes most table.senders wake → IsTrue (bears table most)
    → HearsWithin (clear_within table most) (sender_numbers table) delay taker.number
    → ReceivesAlike taker (heard delay taker.number (cable_closed delay wake table hands)) (closed table hands)

-- So it is of a periodic table, where all wake at the settled start.
abbrev pub PeriodicBorneIsReceived : Type 0
PeriodicBorneIsReceived =
    (table : Table) (hands : List Hand) (most : ℕ) (delay : Delays) (taker : Taker) → IsTrue (is_valid table) → table.mode ≡ Periodic
    → IsTrue (is_accepted (verdict_of table)) → IsTrue (are_even table hands) → AreDelays most (sender_numbers table) delay
    → IsTrue (bears table most) → HearsWithin (clear_within table most) (sender_numbers table) delay taker.number
    → ReceivesAlike taker (heard delay taker.number (closed table hands)) (closed table hands)

-- What a taker takes of a transmission with these delays: of another's, the lines that match, at the moment at which it hears it, which is
-- later than the transmission's by the delay; of its own, nothing.
abbrev pub lines_later : Delays → Taker → Entry → List ReceivedLine
lines_later delay taker x =
    if x.terminal == taker.number then [] else entry_lines taker.takes (later (delay x taker.number) x)

-- A taker receives just that of each transmission of the list, in the list's order, and nothing else.
abbrev pub IsReceivedLater : Delays → Taker → List Entry → Type 0
IsReceivedLater delay taker list = received_by (heard delay taker.number list) taker ≡ flat_map (lines_later delay taker) list

-- With delays between its senders and wakes up to what an accepted aperiodic table bears each terminal that hears every sender soon enough
-- receives each line of the closed schedule on the cable later than it is sent by the delay.
abbrev pub AperiodicIsReceivedLater : Type 0
AperiodicIsReceivedLater =
    (table : Table) (hands : List Hand) (most : ℕ) (delay : Delays) (wake : Wakes) (taker : Taker) → IsTrue (is_valid table)
    → table.mode ≡ Aperiodic → IsTrue (is_accepted (verdict_of table)) → IsTrue (are_even table hands)
    → AreDelays most (sender_numbers table) delay → AreWakes most table.senders wake → IsTrue (bears table most)
    → HearsWithin (clear_within table most) (sender_numbers table) delay taker.number
    → IsReceivedLater delay taker (cable_closed delay wake table hands)

-- So it is of the closed schedule of a periodic table, where all wake at the settled start.
abbrev pub PeriodicIsReceivedLater : Type 0
PeriodicIsReceivedLater =
    (table : Table) (hands : List Hand) (most : ℕ) (delay : Delays) (taker : Taker) → IsTrue (is_valid table) → table.mode ≡ Periodic
    → IsTrue (is_accepted (verdict_of table)) → IsTrue (are_even table hands) → AreDelays most (sender_numbers table) delay
    → IsTrue (bears table most) → HearsWithin (clear_within table most) (sender_numbers table) delay taker.number
    → IsReceivedLater delay taker (closed table hands)

-- In a run of an accepted table a terminal receives every wordstring of another that one of its receive lines matches.
abbrev pub MatchesAreReceived : Type 0
MatchesAreReceived =
    (table : Table) (hands : List Hand) (taker : Taker) (x : Entry) (string : Wordstring) (line : TakeLine) → IsTrue (is_valid table)
    → IsTrue (is_accepted (verdict_of table)) → IsTrue (are_even table hands) → In x (closed table hands) → x.terminal ≢ taker.number
    → In string x.message → In line taker.takes → IsTrue (matches line string.label string.ext)
    → In (received_line x.moment string line) (received_by (closed table hands) taker)
