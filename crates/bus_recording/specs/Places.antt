-- Terminals and a monitor at places on a straight cable.
use Rattle.std.specs.Prelude.{◌≡◌, ℕ, ◌+◌, ◌-◌, ◌<◌, ◌≤◌, ◌&&◌, nat_le, Bool, true, List}
use Rattle.bus_clocks.specs.Entries.{Entry, In}
use Rattle.bus_clocks.specs.Courses.{Course}
use Rattle.bus_recording.specs.Seen.{Bounds, Seen}
use Rattle.bus_recording.specs.Findings.{IsClean}
use Rattle.bus_recording.specs.Keeping.{KeepsBounds}
use Rattle.bus_recording.specs.Just.{AreWithin}
use Rattle.bus_recording.specs.Monitors.{IsFrom, IsPlaced, IsSettled, monitor_of}

-- How far two places are apart, in ticks.
abbrev pub apart : ℕ → ℕ → ℕ
apart a b = (a - b) + (b - a)

-- The moment at which a transmission arrives at a place.
abbrev pub arrives_at : (ℕ → ℕ) → ℕ → Entry → ℕ
arrives_at place spot x = x.moment + apart (place x.sender) spot

-- Where a transmission has carrier, told by how many ticks behind its beginning: at its first and its last tick, nowhere behind it, and
-- nowhere in it are `drop` ticks in a row quiet.
pub record IsCarrierOf (drop length : ℕ) (on : ℕ → Bool) : Type 0 where
  pub first : on 0 ≡ true
  pub last : on (length - 1) ≡ true
  pub within : (n : ℕ) → on n ≡ true → n < length
  pub filled : (n : ℕ) → n < length → (m : ℕ) × (n ≤ m) × (m < n + drop) × (on m ≡ true)

-- Each terminal stands at a place, and hears each transmission as much later as the places are apart, as it has carrier.
pub record IsStraight (c : Course) (drop : ℕ) (place : ℕ → ℕ) (on : Entry → ℕ → Bool) : Type 0 where
  pub hears : (x : Entry) (n t : ℕ) → In x c.list
      → c.hears x n t ≡ (nat_le (arrives_at place (place n) x) t && on x (t - arrives_at place (place n) x))
  pub carrier : (x : Entry) → In x c.list → IsCarrierOf drop x.length (on x)

-- So it is placed, wherever the monitor is.
abbrev pub StraightIsPlaced : Type 0
StraightIsPlaced =
    (c : Course) (place : ℕ → ℕ) (on : Entry → ℕ → Bool) (k spot drop : ℕ) → IsStraight c drop place on
    → IsPlaced c drop (arrives_at place spot) k (apart (place k) spot)

-- One terminal on a straight cable that keeps its bounds has no finding in what a monitor at any spot records from any moment on, whatever
-- the other terminals do.
abbrev pub StraightIsClean : Type 0
StraightIsClean =
    (c : Course) (place : ℕ → ℕ) (on : Entry → ℕ → Bool) (k from spot reach drop start longest settled : ℕ) (recording : List Seen)
    (kept bounds : Bounds) → KeepsBounds c kept k from → AreWithin 0 kept bounds → IsStraight c drop place on
    → apart (place k) spot ≤ reach → IsFrom (arrives_at place spot) start c.list recording
    → IsSettled c (arrives_at place spot) k reach start longest settled → from ≤ start - apart (place k) spot
    → IsClean bounds (monitor_of reach drop settled) recording k
