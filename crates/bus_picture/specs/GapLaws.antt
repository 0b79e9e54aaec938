-- What the timers that are drawn tell. The contract of `laws::timers_are_true` says that each of these laws holds.
use Rattle.std.specs.Prelude.{◌≡◌, ℕ, ◌+◌, ◌-◌, ◌<◌, ◌≤◌, ◌⊎◌, min, take, true, false, IsTrue, List, Some, None}
use Rattle.bus_strings.specs.Members.{In}
use Rattle.bus_strings.specs.Messages.{Entry}
use Rattle.bus_strings.specs.Transmissions.{carrier, end_of}
use Rattle.bus_timers.specs.GapPlace.{GapFrom}
use Rattle.bus_timers.specs.Timings.{due_place}
use Rattle.bus_table.specs.Tables.{Sender, Table}
use Rattle.bus_table.specs.Timers.{quiet_of}
use Rattle.bus_table.specs.Valid.{is_valid}
use Rattle.bus_trace.specs.Traces.{Recording, IsTrace}
use Rattle.bus_medium.specs.Past.{past, own, last_place}
use Rattle.bus_medium.specs.Timings.{timing_of}
use Rattle.bus_shapes.specs.declared.sent.Sent.{Sent}
use Rattle.bus_shapes.specs.Sending.{sents}
use Rattle.bus_pen.specs.declared.scale.Scale.{Scale}
use Rattle.bus_picture.specs.Gaps.{Gap, is_first}
use Rattle.bus_picture.specs.Intervals.{interval_to, last_start}
use Rattle.bus_picture.specs.Timers.{LaneTimings, is_behind_gap, lane_gap, last_lane_gap, timings_of}

-- Up to a moment the terminal gap of a sender is this one:
--   counts   at the moment it counts from the gap's first moment, after all that the sender has heard
--   silent   there is no carrier in it
--   ends     it is over when the whole terminal gap has been, or ends at the moment
pub record IsGapOf (table : Table) (trace : Recording) (sender : Sender) (moment : ℕ) (gap : Gap) : Type 0 where
  pub counts : GapFrom table.sg (past (quiet_of table) trace.list moment)
      (last_place (quiet_of table) (own trace.list sender.number moment)) (quiet_of table + gap.from)
  pub silent : (u : ℕ) → gap.from ≤ u → u < gap.to → carrier trace.list u ≡ false
  pub ends : gap.to ≡ min (gap.from + sender.tg) moment

-- The same up to a transmission, where carrier begins, which sets back what isn't over.
pub record IsGapBefore (table : Table) (trace : Recording) (sender : Sender) (x : Sent) (gap : Gap) : Type 0 where
  pub gap_of : IsGapOf table trace sender x.moment gap
  pub carrier_begins : carrier trace.list x.moment ≡ true

-- What is the same all along the lane in which a sender is drawn: but for where the lane lies, that of any lane.
abbrev pub drawn_timings : Table → Recording → Sender → LaneTimings
drawn_timings table trace sender = timings_of table trace.horizon 0 sender.number sender.tg

-- The terminal gap that is drawn of a sender before a transmission, its own or another's.
abbrev pub drawn_gap : Table → Recording → Sender → Sent → Gap
drawn_gap table trace sender x = lane_gap trace.list (drawn_timings table trace sender) x

-- Each terminal gap that is drawn before a transmission is that of the timers.
abbrev pub GapsAreTrue : Type 0
GapsAreTrue =
    (table : Table) (trace : Recording) (sender : Sender) (x : Sent) → IsTrue (is_valid table) → IsTrace trace
    → In sender table.senders → In x (sents trace.list)
    → (drawn_gap table trace sender x).from < (drawn_gap table trace sender x).to
    → IsGapBefore table trace sender x (drawn_gap table trace sender x)

-- The terminal gap that is drawn of a sender behind all transmissions.
abbrev pub last_gap : Table → Recording → Sender → Gap
last_gap table trace sender = last_lane_gap trace.list (drawn_timings table trace sender)

-- It is that of the timers too.
abbrev pub LastGapsAreTrue : Type 0
LastGapsAreTrue =
    (table : Table) (trace : Recording) (sender : Sender) → IsTrue (is_valid table) → IsTrace trace → In sender table.senders
    → (last_gap table trace sender).from < (last_gap table trace sender).to
    → IsGapOf table trace sender trace.horizon (last_gap table trace sender)

-- Bit time u is in a gap.
abbrev pub IsIn : ℕ → Gap → Type 0
IsIn u gap = (gap.from ≤ u) × (u < gap.to)

-- No transmission of a list runs at bit time u: each has ended by then, or begins behind it.
abbrev pub IsStill : List Entry → ℕ → Type 0
IsStill list u = (y : Entry) → In y list → (end_of y ≤ u) ⊎ (u < y.moment)

-- Bit time u is in a terminal gap that is drawn of a sender: before the first transmission of a moment, or behind all.
abbrev pub IsInOne : Table → Recording → Sender → ℕ → Type 0
IsInOne table trace sender u =
    ((x : Sent) × In x (sents trace.list) × (is_first trace.list x ≡ true) × IsIn u (drawn_gap table trace sender x))
    ⊎ IsIn u (last_gap table trace sender)

-- Each bit time below the horizon at which no transmission runs and the terminal gap of a sender counts is in one: the gap counts from a
-- place that has come, and isn't over.
abbrev pub GapsAreAll : Type 0
GapsAreAll =
    (table : Table) (trace : Recording) (sender : Sender) (u g : ℕ) → IsTrue (is_valid table) → IsTrace trace
    → In sender table.senders → u < trace.horizon → IsStill trace.list u
    → GapFrom table.sg (past (quiet_of table) trace.list u) (last_place (quiet_of table) (own trace.list sender.number u)) g
    → g ≤ quiet_of table + u → quiet_of table + u < g + sender.tg → IsInOne table trace sender u

-- From one moment to another the transmit interval of a sender runs:
--   begins  the sender starts at the first
--   runs    at each moment behind that, up to the second, it elapses a transmit interval behind the start, and no other start counts
--   ends    it is over at the second, or the sender starts again there, which is later
--   short   the second lies no further than where the interval is over
pub record IsIntervalOf (table : Table) (trace : Recording) (sender : Sender) (from to : ℕ) : Type 0 where
  pub begins : (y : Entry) × In y trace.list × (y.terminal ≡ sender.number) × (y.moment ≡ from)
  pub runs : (t : ℕ) → from < t → t ≤ to
      → due_place (timing_of table sender) (last_place (quiet_of table) (own trace.list sender.number t))
      ≡ quiet_of table + (from + table.ti)
  pub ends : (to ≡ from + table.ti)
      ⊎ ((y : Entry) × In y trace.list × (y.terminal ≡ sender.number) × (y.moment ≡ to) × (from < y.moment))
  pub short : to ≤ from + table.ti

-- Each transmit interval that is drawn up to a start, from the sender's last one before it, is that of the timers.
abbrev pub IntervalsAreTrue : Type 0
IntervalsAreTrue =
    (table : Table) (trace : Recording) (sender : Sender) (x : Sent) (from : ℕ) → IsTrace trace → In x (sents trace.list)
    → x.terminal ≡ sender.number → last_start sender.number (take x.at trace.list) ≡ Some from
    → IsIntervalOf table trace sender from (interval_to (drawn_timings table trace sender).ti from (Some x.moment))

-- So is the one that is drawn behind the last start of all.
abbrev pub LastIntervalsAreTrue : Type 0
LastIntervalsAreTrue =
    (table : Table) (trace : Recording) (sender : Sender) (from : ℕ) → IsTrace trace
    → last_start sender.number trace.list ≡ Some from
    → IsIntervalOf table trace sender from (interval_to (drawn_timings table trace sender).ti from None)

-- From each start of a terminal one is drawn: up to its next start, or behind all.
abbrev pub IntervalsAreAll : Type 0
IntervalsAreAll =
    (list : List Entry) (terminal : ℕ) (y : Entry) → In y list → y.terminal ≡ terminal
    → ((x : Sent) × In x (sents list) × (x.terminal ≡ terminal) × (last_start terminal (take x.at list) ≡ Some y.moment))
    ⊎ (last_start terminal list ≡ Some y.moment)

-- Each synchronization gap that is drawn on the bus before a transmission begins where carrier ends, and has none.
pub record IsSyncOf (trace : Recording) (sg : ℕ) (x : Sent) : Type 0 where
  pub behind : carrier trace.list (x.before - 1) ≡ true
  pub silent : (u : ℕ) → x.before ≤ u → u < x.before + sg → carrier trace.list u ≡ false

-- All of them do.
abbrev pub SyncGapsAreTrue : Type 0
SyncGapsAreTrue =
    (scale : Scale) (sg : ℕ) (trace : Recording) (x : Sent) → IsTrace trace → In x (sents trace.list)
    → is_behind_gap scale sg x ≡ true → IsSyncOf trace sg x
