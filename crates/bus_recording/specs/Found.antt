-- What is surely found: faults that are greater than the margins, told by what the terminal itself heard. Delays are steady here, each end
-- is known, and nothing is rounded.
--   x, z   two transmissions of the terminal that are recorded one next behind the other
--   n      ticks, so many at least
use Rattle.std.specs.Prelude.{◌≡◌, ◌≢◌, ℕ, ◌+◌, ◌-◌, ◌<◌, ◌≤◌, true, List}
use Rattle.bus_clocks.specs.Entries.{Entry, In, end_of}
use Rattle.bus_clocks.specs.Courses.{Course, IsQuiet}
use Rattle.bus_recording.specs.Seen.{Bounds, IsIn, Monitor, Seen}
use Rattle.bus_recording.specs.Findings.{IsEarlyByGap, IsEarlyByInterval, IsEarlyBySync, IsLate}
use Rattle.bus_recording.specs.Recordings.{IsRecording}
use Rattle.bus_recording.specs.Amounts.{AreNext}
use Rattle.bus_recording.specs.Monitors.{IsFrom, IsPlaced, IsSettled, monitor_of, seen_by}

-- A recording for terminal k whose delay to the monitor is steady, and in which it is known to the tick when each transmission has ended.
pub record IsSteady (c : Course) (monitor : Monitor) (k from ahead : ℕ) (seen : Entry → Seen) (recording : List Seen) : Type 0 where
  pub kept : IsRecording c monitor k from ahead 0 seen recording
  pub exact : (x : Entry) → In x c.list → (seen x).soonest ≡ (seen x).latest

-- So is what a monitor records at a place on a cable.
abbrev pub PlacedIsSteady : Type 0
PlacedIsSteady =
    (c : Course) (k from away reach drop start longest settled : ℕ) (arrives : Entry → ℕ) (recording : List Seen)
    → IsPlaced c drop arrives k away → away ≤ reach → IsFrom arrives start c.list recording
    → IsSettled c arrives k reach start longest settled → from ≤ start - away
    → IsSteady c (monitor_of reach drop settled) k from away (seen_by arrives) recording

-- Terminal k heard carrier of another's recorded transmission at tick b, and at tick t.
pub record HeardBoth (c : Course) (k : ℕ) (seen : Entry → Seen) (recording : List Seen) (b t : ℕ) : Type 0 where
  pub other : Entry
  pub there : In other c.list
  pub recorded : IsIn (seen other) recording
  pub foreign : other.sender ≢ k
  pub one : c.hears other k b ≡ true
  pub two : c.hears other k t ≡ true

-- An interval that is too short is found, however little more than the bounds leave, wherever the monitor is.
abbrev pub ShortIntervalIsFound : Type 0
ShortIntervalIsFound =
    (c : Course) (monitor : Monitor) (k from ahead n : ℕ) (seen : Entry → Seen) (recording : List Seen) (bounds : Bounds) (x z : Entry)
    → IsSteady c monitor k from ahead seen recording → AreNext c.list k seen recording x z → z.moment + n ≤ x.moment + bounds.short.ti
    → IsEarlyByInterval bounds n (seen x) (seen z)

-- A start is found where the terminal heard carrier of another's transmission less than its terminal gap, less `rest`, before it, and had
-- heard carrier of that one more than the reach before it.
abbrev pub ShortGapIsFound : Type 0
ShortGapIsFound =
    (c : Course) (monitor : Monitor) (k from ahead n : ℕ) (seen : Entry → Seen) (recording : List Seen) (bounds : Bounds) (z : Entry)
    (b t : ℕ)
    → IsSteady c monitor k from ahead seen recording → In z c.list → z.sender ≡ k → monitor.drop ≤ bounds.short.tg
    → HeardBoth c k seen recording b t → b + monitor.reach < z.moment → z.moment + monitor.rest + n ≤ t + 1 + bounds.short.tg
    → IsEarlyByGap bounds monitor n recording (seen z)

-- A start is found where in each stretch that lacks less than n ticks of a synchronization gap, between the terminal's last end and its
-- terminal gap before the start, it heard carrier of another's transmission: `rest` or more behind where the stretch begins, and more than
-- the reach before it ends.
abbrev pub ShortSyncIsFound : Type 0
ShortSyncIsFound =
    (c : Course) (monitor : Monitor) (k from ahead n : ℕ) (seen : Entry → Seen) (recording : List Seen) (bounds : Bounds) (x z : Entry)
    → IsSteady c monitor k from ahead seen recording → AreNext c.list k seen recording x z → monitor.drop + n ≤ bounds.short.sg + 1
    → ((a length : ℕ) → bounds.short.sg < length + n → end_of x ≤ a → a + length + bounds.short.tg ≤ z.moment
    → (t : ℕ) × (a + monitor.rest ≤ t) × (t + monitor.reach < a + length) × HeardBoth c k seen recording t t)
    → IsEarlyBySync bounds monitor n recording (seen x) (seen z)

-- A start is found to be late where at a tick n or more before it the interval was over, and the terminal had heard its gaps on a settled
-- bus, each with `rest` more before it and the reach more behind it.
abbrev pub LateStartIsFound : Type 0
LateStartIsFound =
    (c : Course) (monitor : Monitor) (k from ahead n : ℕ) (seen : Entry → Seen) (recording : List Seen) (bounds : Bounds) (x z : Entry)
    (elapsed t : ℕ) → IsSteady c monitor k from ahead seen recording → AreNext c.list k seen recording x z
    → monitor.drop ≤ bounds.long.sg → monitor.drop ≤ bounds.long.tg → t + n ≤ z.moment → x.moment + bounds.long.ti ≤ t
    → end_of x + bounds.long.sg ≤ elapsed → monitor.settled + bounds.long.sg ≤ elapsed + ahead → monitor.rest + bounds.long.sg ≤ elapsed
    → elapsed + bounds.long.tg ≤ t → IsQuiet c k (elapsed - bounds.long.sg - monitor.rest) (elapsed + monitor.reach)
    → IsQuiet c k (t - bounds.long.tg - monitor.rest) (t + monitor.reach) → IsLate bounds monitor n recording (seen x) (seen z)
