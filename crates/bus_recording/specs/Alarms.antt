-- That there is no false alarm: what a monitor records is a recording for each terminal, and so what keeps its bounds has no finding.
use Rattle.std.specs.Prelude.{◌≡◌, ℕ, ◌+◌, ◌-◌, ◌<◌, ◌≤◌, List}
use Rattle.bus_clocks.specs.Buses.{Bus}
use Rattle.bus_clocks.specs.Entries.{Entry, In}
use Rattle.bus_clocks.specs.Courses.{Course, IsCourse}
use Rattle.bus_recording.specs.Seen.{Bounds, Seen}
use Rattle.bus_recording.specs.Findings.{IsClean}
use Rattle.bus_recording.specs.Keeping.{KeepsBounds}
use Rattle.bus_recording.specs.Recordings.{IsRecording}
use Rattle.bus_recording.specs.Just.{AreWithin}
use Rattle.bus_recording.specs.Bounded.{bounds_of}
use Rattle.bus_recording.specs.Monitors.{HearsWithin, IsFrom, IsPlaced, IsSettled, monitor_of, seen_by}

-- On a cable: what the monitor records is a recording for the terminal, whose clock is set ahead by its distance.
abbrev pub PlacedIsRecorded : Type 0
PlacedIsRecorded =
    (c : Course) (k from away reach drop start longest settled : ℕ) (arrives : Entry → ℕ) (recording : List Seen)
    → IsPlaced c drop arrives k away → away ≤ reach → IsFrom arrives start c.list recording
    → IsSettled c arrives k reach start longest settled
    → from ≤ start - away → IsRecording c (monitor_of reach drop settled) k from away 0 (seen_by arrives) recording

-- So a terminal that keeps its bounds has no finding by bounds that are as wide, whatever the others do.
abbrev pub PlacedIsClean : Type 0
PlacedIsClean =
    (c : Course) (k from away reach drop start longest settled : ℕ) (arrives : Entry → ℕ) (recording : List Seen) (kept bounds : Bounds)
    → KeepsBounds c kept k from → AreWithin 0 kept bounds → IsPlaced c drop arrives k away → away ≤ reach
    → IsFrom arrives start c.list recording → IsSettled c arrives k reach start longest settled → from ≤ start - away
    → IsClean bounds (monitor_of reach drop settled) recording k

-- Whatever terminal and monitor hear within the reach, it is a recording whose delays sway by the reach, where the terminal's own messages
-- and gaps last longer than that.
abbrev pub HeardIsRecorded : Type 0
HeardIsRecorded =
    (c : Course) (k from reach drop start longest settled : ℕ) (arrives : Entry → ℕ) (recording : List Seen) (kept : Bounds)
    → KeepsBounds c kept k from → drop ≤ kept.short.tg → ((x : Entry) → In x c.list → x.sender ≡ k → reach < x.length + kept.short.tg)
    → HearsWithin c drop arrives k reach → IsFrom arrives start c.list recording → IsSettled c arrives k reach start longest settled
    → from ≤ start - reach → IsRecording c (monitor_of reach drop settled) k from reach reach (seen_by arrives) recording

-- So there is no finding by bounds that are wider by the reach.
abbrev pub HeardIsClean : Type 0
HeardIsClean =
    (c : Course) (k from reach drop start longest settled : ℕ) (arrives : Entry → ℕ) (recording : List Seen) (kept bounds : Bounds)
    → KeepsBounds c kept k from → AreWithin reach kept bounds → drop ≤ kept.short.tg
    → ((x : Entry) → In x c.list → x.sender ≡ k → reach < x.length + kept.short.tg) → HearsWithin c drop arrives k reach
    → IsFrom arrives start c.list recording → IsSettled c arrives k reach start longest settled → from ≤ start - reach
    → IsClean bounds (monitor_of reach drop settled) recording k

-- In every course of a bus within bounds, in both modes, no sender has a finding, whatever state its timers began in.
abbrev pub CourseIsClean : Type 0
CourseIsClean =
    (bus : Bus) (c : Course) (k away reach drop start longest settled : ℕ) (arrives : Entry → ℕ) (recording : List Seen)
    (bounds : Bounds)
    → IsCourse bus c → k < bus.senders → 0 < bus.sg_long k → AreWithin 0 (bounds_of bus k) bounds
    → IsPlaced c drop arrives k away → away ≤ reach → IsFrom arrives start c.list recording
    → IsSettled c arrives k reach start longest settled → IsClean bounds (monitor_of reach drop settled) recording k

-- Nor has it, by bounds that are wider by the delay of the bus, where all hear what they like within that delay, and the monitor too.
abbrev pub HeardCourseIsClean : Type 0
HeardCourseIsClean =
    (bus : Bus) (c : Course) (k start longest settled : ℕ) (arrives : Entry → ℕ) (recording : List Seen) (bounds : Bounds)
    → IsCourse bus c → k < bus.senders → 0 < bus.sg_long k → AreWithin bus.delay (bounds_of bus k) bounds
    → bus.drop ≤ bus.tg_short k → bus.delay < bus.shortest k + bus.tg_short k
    → ((x : Entry) → In x c.list → (x.moment ≤ arrives x) × (arrives x ≤ x.moment + bus.delay))
    → IsFrom arrives start c.list recording → IsSettled c arrives k bus.delay start longest settled
    → IsClean bounds (monitor_of bus.delay bus.drop settled) recording k
