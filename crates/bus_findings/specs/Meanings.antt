-- What the amounts that are told mean on the bus that was recorded, where the trace is the file of a monitor: in ticks of that bus,
-- which may be as fine as you like. Rounding down takes less than a bit time from an amount, and less than two from that of a
-- synchronization gap.
use Rattle.std.specs.Prelude.{◌≡◌, ◌<◌, Some}
use Rattle.bus_strings.specs.Messages.{Entry}
use Rattle.bus_table.specs.Tables.{Sender, Table}
use Rattle.bus_trace.specs.Traces.{Recording, IsTrace}
use Rattle.bus_bounds.specs.Bounds.{Bounds}
use Rattle.bus_clocks.specs.Entries.{Entry as Transmission}
use Rattle.bus_recording.specs.FileAmounts.{LacksGap, LacksInterval, LacksSync, StandsAs, StartsApart, WasDue}
use Rattle.bus_recording.specs.Keeping.{AreInRow}
use Rattle.bus_recording.specs.Seen.{Seen}
use Rattle.bus_findings.specs.declared.judgement.Judgement.{Judgement}
use Rattle.bus_findings.specs.declared.judgement.Late.{Late}
use Rattle.bus_findings.specs.Files.{StandsInFile}
use Rattle.bus_findings.specs.Judging.{judgement_of, last_start}
use Rattle.bus_findings.specs.Laws.{IsOfSender}
use Rattle.bus_findings.specs.Recorded.{seen, recorded, timers_of}

-- A transmission of the sender on the bus stands as y in the file.
abbrev pub StandsThere : (bounds : Bounds) (table : Table) (trace : Recording) (sender : Sender) → StandsInFile bounds table trace sender
    → Seen → Transmission → Type 0
StandsThere bounds table trace sender s y z = StandsAs s.course.list s.terminal s.start s.noted s.name y z

-- The sender's starts on the bus are a bit time apart, or more.
abbrev pub StartsSingly : (bounds : Bounds) (table : Table) (trace : Recording) (sender : Sender)
    → StandsInFile bounds table trace sender → Type 0
StartsSingly bounds table trace sender s = StartsApart s.bit s.terminal s.course.list

-- What is told of a start means this of two transmissions of the sender on the bus, the next behind each other:
--   interval       its interval was so much shorter than the shortest
--   terminal_gap   it had heard so much less quiet than its shortest terminal gap before it started
--   sync_gap       nor anywhere between the two more than so much less than the shortest synchronization gap
--   late           it had been due so long by its longest timers.
pub record AreMeantOf (bounds : Bounds) (table : Table) (trace : Recording) (sender : Sender)
    (s : StandsInFile bounds table trace sender) (found : Judgement) (before start : Transmission) : Type 0 where
  pub row : AreInRow s.course.list s.terminal before start
  pub interval : 0 < found.interval → LacksInterval s.bit (timers_of bounds table sender).short found.interval before start
  pub terminal_gap : 0 < found.terminal_gap
      → LacksGap s.course s.terminal s.drop s.bit (timers_of bounds table sender).short found.terminal_gap start
  pub sync_gap : 0 < found.sync_gap
      → LacksSync s.course s.terminal s.drop s.bit (timers_of bounds table sender).short found.sync_gap before start
  pub late : (late : Late) → found.late ≡ Some late
      → WasDue s.course s.terminal s.bit (timers_of bounds table sender).long late.amount before start

-- So it is of the transmissions that stand as a start x and as the one before it, o.
abbrev pub IsMeantOf : (bounds : Bounds) (table : Table) (trace : Recording) (sender : Sender)
    → StandsInFile bounds table trace sender → Entry → Seen → Type 0
IsMeantOf bounds table trace sender s x o =
    (before : Transmission) × (start : Transmission) × StandsThere bounds table trace sender s o before
    × StandsThere bounds table trace sender s (seen bounds x) start
    × AreMeantOf bounds table trace sender s (judgement_of bounds table trace.list x) before start

-- So it is of each start behind another of its sender.
abbrev pub FileAmountsAreMeant : Type 0
FileAmountsAreMeant =
    (bounds : Bounds) (table : Table) (trace : Recording) (sender : Sender) (s : StandsInFile bounds table trace sender)
    (x : Entry) (o : Seen) → IsTrace trace → StartsSingly bounds table trace sender s → IsOfSender table trace sender x
    → last_start (recorded bounds trace.list) x.terminal x.moment ≡ Some o → IsMeantOf bounds table trace sender s x o

-- The amount of its terminal gap that is told of a start means so of the transmission that stands there.
abbrev pub GapIsMeantOf : (bounds : Bounds) (table : Table) (trace : Recording) (sender : Sender) → StandsInFile bounds table trace sender
    → Entry → Type 0
GapIsMeantOf bounds table trace sender s x =
    (start : Transmission) × StandsThere bounds table trace sender s (seen bounds x) start
    × LacksGap s.course s.terminal s.drop s.bit (timers_of bounds table sender).short
    (judgement_of bounds table trace.list x).terminal_gap start

-- So it is of each start, be it the first of its sender.
abbrev pub FileGapIsMeant : Type 0
FileGapIsMeant =
    (bounds : Bounds) (table : Table) (trace : Recording) (sender : Sender) (s : StandsInFile bounds table trace sender) (x : Entry)
    → IsTrace trace → StartsSingly bounds table trace sender s → IsOfSender table trace sender x
    → 0 < (judgement_of bounds table trace.list x).terminal_gap → GapIsMeantOf bounds table trace sender s x
