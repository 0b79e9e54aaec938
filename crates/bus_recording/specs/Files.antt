-- A recording in a file: in whole bit times, rounded down, counted from its own beginning, of a bus that ran before and goes on behind it.
--   bit          how many ticks a bit time has
--   start, end   the bit times of the bus at which the file begins and ends
--   arrives      the moment at which the monitor hears a transmission begin, in ticks of the bus
--   noted        how a transmission is noted, in bit times of the bus
use Rattle.std.specs.Prelude.{◌≡◌, ℕ, ◌+◌, ◌-◌, ◌*◌, ◌<◌, ◌≤◌, nat_lt, cond, false, List, [], ◌∷◌}
use Rattle.bus_clocks.specs.Entries.{Entry, In}
use Rattle.bus_clocks.specs.Buses.{Bus}
use Rattle.bus_clocks.specs.Courses.{Course, IsCourse}
use Rattle.bus_recording.specs.Seen.{Bounds, IsIn, Monitor, Seen}
use Rattle.bus_recording.specs.Findings.{IsClean}
use Rattle.bus_recording.specs.Keeping.{KeepsBounds}
use Rattle.bus_recording.specs.Recordings.{IsRecording}
use Rattle.bus_recording.specs.Just.{AreWithin}
use Rattle.bus_recording.specs.Bounded.{bounds_of}
use Rattle.bus_recording.specs.Monitors.{HearsWithin, IsPlaced, seen_by}
use Rattle.bus_recording.specs.Names.{all_renamed}
use Rattle.bus_recording.specs.Rounding.{IsNoted, all_in_ticks, bounds_in_ticks, finer, in_ticks}
use Rattle.bus_recording.specs.Shifts.{all_later, later, settled_later}

-- The file has what is noted to begin from bit time `start` on and before bit time `end`, counted from `start`, and nothing else.
pub record IsFile (bit : ℕ) (arrives : Entry → ℕ) (noted : Entry → Seen) (start end : ℕ) (list : List Entry) (recording : List Seen)
    : Type 0 where
  pub so : (x : Entry) → In x list → IsNoted bit (seen_by arrives x) (noted x)
  pub each : (r : Seen) → IsIn r recording → (x : Entry) × In x list × (later start r ≡ noted x) × ((noted x).moment < end)
  pub all : (x : Entry) → In x list → start ≤ (noted x).moment → (noted x).moment < end
      → (r : Seen) × IsIn r recording × (later start r ≡ noted x)

-- What is told of the monitor, in bit times, and as the file counts, is true of terminal k:
--   begin, finish    its `reach` and its `rest` are no less than `reach` ticks there and back
--   quiet            nor is its `drop` less than `drop` ticks
--   most, settled    what the monitor heard begin before the file begins is no longer than `longest` ticks, and is over, on all ways
--   still            and behind that the terminal hears no noise.
pub record IsToldOf (c : Course) (arrives : Entry → ℕ) (k reach drop bit start longest : ℕ) (monitor : Monitor) : Type 0 where
  pub begin : 2 * reach ≤ monitor.reach * bit
  pub finish : 2 * reach ≤ monitor.rest * bit
  pub quiet : drop ≤ monitor.drop * bit
  pub most : (x : Entry) → In x c.list → arrives x < start * bit → x.length ≤ longest
  pub settled : longest + 2 * reach ≤ (monitor.settled + 1) * bit
  pub still : (t : ℕ) → (start + monitor.settled + 1) * bit ≤ t + reach + 1 → c.noise k t ≡ false

-- Those of these transmissions that the monitor hears begin before a moment.
abbrev pub arrived : (Entry → ℕ) → ℕ → List Entry → List Entry
arrived arrives end [] = []
arrived arrives end (x ∷ list) = cond (nat_lt (arrives x) end) (x ∷ arrived arrives end list) (arrived arrives end list)

-- What happens on the bus by means of these alone.
abbrev pub until : (Entry → ℕ) → ℕ → Course → Course
until arrives end c = record c { list = arrived arrives end c.list }

-- A terminal on a cable that keeps its bounds keeps them by what the monitor hears begin before a moment: what comes later it hears behind
-- its own starts of then.
abbrev pub UntilKeepsBounds : Type 0
UntilKeepsBounds =
    (c : Course) (kept : Bounds) (k from away drop end : ℕ) (arrives : Entry → ℕ) → IsPlaced c drop arrives k away
    → KeepsBounds c kept k from → KeepsBounds (until arrives end c) kept k from

-- And it stands where it stood.
abbrev pub UntilIsPlaced : Type 0
UntilIsPlaced =
    (c : Course) (k away drop end : ℕ) (arrives : Entry → ℕ) → IsPlaced c drop arrives k away
    → IsPlaced (until arrives end c) drop arrives k away

-- So it is where delays vary up to a reach that is no longer than the terminal gap.
abbrev pub UntilHeardKeepsBounds : Type 0
UntilHeardKeepsBounds =
    (c : Course) (kept : Bounds) (k from reach drop end : ℕ) (arrives : Entry → ℕ) → HearsWithin c drop arrives k reach
    → drop ≤ kept.short.tg → reach ≤ kept.short.tg → ((x : Entry) → In x c.list → x.sender ≡ k → reach < x.length + kept.short.tg)
    → KeepsBounds c kept k from → KeepsBounds (until arrives end c) kept k from

-- And terminal and monitor hear as they heard.
abbrev pub UntilHearsWithin : Type 0
UntilHearsWithin =
    (c : Course) (k reach drop end : ℕ) (arrives : Entry → ℕ) → HearsWithin c drop arrives k reach
    → HearsWithin (until arrives end c) drop arrives k reach

-- So each terminal on a cable that keeps its bounds, `away` ticks from the monitor, has no finding in a file of whole bit times that begins
-- and ends while the bus goes on, and counts from its own beginning: whatever the others do, by bounds that are wider by less than a bit
-- time.
abbrev pub FileIsClean : Type 0
FileIsClean =
    (c : Course) (k from away reach drop bit start end longest : ℕ) (arrives : Entry → ℕ) (noted : Entry → Seen) (recording : List Seen)
    (monitor : Monitor) (kept bounds : Bounds) → KeepsBounds c kept k from → from ≤ start * bit - away → 1 ≤ bit
    → IsPlaced c drop arrives k away → away ≤ reach → IsFile bit arrives noted start end c.list recording
    → IsToldOf c arrives k reach drop bit start longest monitor → AreWithin (bit - 1) kept (bounds_in_ticks bit bounds)
    → drop ≤ kept.short.tg → ((x : Entry) → In x c.list → x.sender ≡ k → bit ≤ x.length + kept.short.tg)
    → IsClean bounds monitor recording k

-- Whether it keeps its bounds or not: counted on from where the file begins, and in ticks, what stands in the file is a recording for the
-- terminal of what the monitor heard begin before the file ends, and its delays sway by less than a bit time. So amounts that are found in
-- it are true; the terminal's starts are a bit time apart here, or more.
abbrev pub FileIsRecorded : Type 0
FileIsRecorded =
    (c : Course) (k away reach drop bit start end longest : ℕ) (arrives : Entry → ℕ) (noted : Entry → Seen) (recording : List Seen)
    (monitor : Monitor) → 1 ≤ bit → IsPlaced c drop arrives k away → away ≤ reach → IsFile bit arrives noted start end c.list recording
    → IsToldOf c arrives k reach drop bit start longest monitor
    → ((x z : Entry) → In x c.list → In z c.list → x.sender ≡ k → z.sender ≡ k → x.moment < z.moment → x.moment + bit ≤ z.moment)
    → IsRecording (until arrives (end * bit) c) (finer bit drop (settled_later start monitor)) k 0 away (bit - 1)
    (λ x. in_ticks bit (noted x)) (all_in_ticks bit (all_later start recording))

-- So it is in every course of a bus within bounds, in both modes, of each sender, by whatever numbers terminals are told.
abbrev pub CourseFileIsClean : Type 0
CourseFileIsClean =
    (bus : Bus) (c : Course) (k away reach drop bit start end longest : ℕ) (arrives : Entry → ℕ) (noted : Entry → Seen)
    (recording : List Seen) (monitor : Monitor) (bounds : Bounds) (name : ℕ → ℕ) → IsCourse bus c → k < bus.senders → 0 < bus.sg_long k
    → 1 ≤ bit → IsPlaced c drop arrives k away → away ≤ reach
    → IsFile bit arrives noted start end c.list recording → IsToldOf c arrives k reach drop bit start longest monitor
    → AreWithin (bit - 1) (bounds_of bus k) (bounds_in_ticks bit bounds) → drop ≤ bus.tg_short k → bit ≤ bus.shortest k + bus.tg_short k
    → ((a b : ℕ) → name a ≡ name b → a ≡ b) → IsClean bounds monitor (all_renamed name recording) (name k)
