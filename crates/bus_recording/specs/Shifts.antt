-- A recording may count from anywhere, as from its own beginning.
use Rattle.std.specs.Prelude.{ℕ, ◌+◌, ◌↔◌, List, [], ◌∷◌}
use Rattle.bus_recording.specs.Seen.{Bounds, IsNext, Monitor, Seen}
use Rattle.bus_recording.specs.Findings.{IsClean, IsEarlyByGap, IsEarlyByInterval, IsEarlyBySync, IsLate}

-- The same transmission, counted from `start` ticks earlier.
abbrev pub later : ℕ → Seen → Seen
later start r = record { moment = r.moment + start; sender = r.sender; soonest = r.soonest + start; latest = r.latest + start }

-- The same of all.
abbrev pub all_later : ℕ → List Seen → List Seen
all_later start [] = []
all_later start (r ∷ list) = later start r ∷ all_later start list

-- So counted it has been settled as much later.
abbrev pub settled_later : ℕ → Monitor → Monitor
settled_later start monitor = record monitor { settled = monitor.settled + start }

-- Starts are next to each other exactly where they are so counted.
abbrev pub NextLater : Type 0
NextLater =
    (start : ℕ) (recording : List Seen) (o y : Seen) → IsNext recording o y
    ↔ IsNext (all_later start recording) (later start o) (later start y)

-- And there is a finding exactly where there is one so counted, with the same amount. So it is of the interval.
abbrev pub IntervalLater : Type 0
IntervalLater =
    (bounds : Bounds) (start n : ℕ) (o y : Seen) → IsEarlyByInterval bounds n o y
    ↔ IsEarlyByInterval bounds n (later start o) (later start y)

-- So it is of the terminal gap.
abbrev pub GapLater : Type 0
GapLater =
    (bounds : Bounds) (monitor : Monitor) (start n : ℕ) (recording : List Seen) (y : Seen) → IsEarlyByGap bounds monitor n recording y
    ↔ IsEarlyByGap bounds (settled_later start monitor) n (all_later start recording) (later start y)

-- So it is of the synchronization gap.
abbrev pub SyncLater : Type 0
SyncLater =
    (bounds : Bounds) (monitor : Monitor) (start n : ℕ) (recording : List Seen) (o y : Seen) → IsEarlyBySync bounds monitor n recording o y
    ↔ IsEarlyBySync bounds (settled_later start monitor) n (all_later start recording) (later start o) (later start y)

-- So it is of late starts.
abbrev pub LateLater : Type 0
LateLater =
    (bounds : Bounds) (monitor : Monitor) (start n : ℕ) (recording : List Seen) (o y : Seen) → IsLate bounds monitor n recording o y
    ↔ IsLate bounds (settled_later start monitor) n (all_later start recording) (later start o) (later start y)

-- So a terminal has no finding exactly where it has none in the recording that counts from its own beginning.
abbrev pub CountsFromAnywhere : Type 0
CountsFromAnywhere =
    (bounds : Bounds) (monitor : Monitor) (start k : ℕ) (recording : List Seen)
    → IsClean bounds (settled_later start monitor) (all_later start recording) k ↔ IsClean bounds monitor recording k
