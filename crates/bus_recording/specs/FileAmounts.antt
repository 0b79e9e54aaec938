-- What an amount that is found in a file means on the bus that was recorded, in ticks, whatever the terminal and the others did. Rounding
-- down takes less than a bit time from it, and less than two from that of a synchronization gap.
--   k      the terminal that it is told of
--   n      the amount, in bit times
--   o, y   two starts of the terminal in the file, y the next behind o
--   x, z   the transmissions that stand there.
use Rattle.std.specs.Prelude.{◌≡◌, ℕ, ◌+◌, ◌-◌, ◌*◌, ◌<◌, ◌≤◌, ◌⊎◌, List}
use Rattle.bus_clocks.specs.Entries.{Entry, In}
use Rattle.bus_clocks.specs.Courses.{Course}
use Rattle.bus_recording.specs.Seen.{Bounds, IsIn, IsNext, Monitor, Seen, Timers}
use Rattle.bus_recording.specs.Findings.{IsEarlyByGap, IsEarlyByInterval, IsEarlyBySync, IsLate}
use Rattle.bus_recording.specs.Files.{IsFile, IsToldOf}
use Rattle.bus_recording.specs.Keeping.{AreInRow, AreOver, HasBeenQuiet}
use Rattle.bus_recording.specs.Monitors.{IsPlaced}
use Rattle.bus_recording.specs.Names.{all_renamed, renamed}
use Rattle.bus_recording.specs.Shifts.{later}

-- Starts of terminal k are a bit time apart, or more: so they are where it sends one message at a time, each a bit time long or longer.
abbrev pub StartsApart : ℕ → ℕ → List Entry → Type 0
StartsApart bit k list =
    (x z : Entry) → In x list → In z list → x.sender ≡ k → z.sender ≡ k → x.moment < z.moment → x.moment + bit ≤ z.moment

-- This transmission of terminal k stands as y in a file that begins at bit time `start`.
pub record StandsAs (list : List Entry) (k start : ℕ) (noted : Entry → Seen) (name : ℕ → ℕ) (y : Seen) (z : Entry) : Type 0 where
  pub here : In z list
  pub own : z.sender ≡ k
  pub noted_so : renamed name (noted z) ≡ later start y

-- Too early by the interval: the terminal's interval was shorter than the shortest by as much.
abbrev pub LacksInterval : ℕ → Timers → ℕ → Entry → Entry → Type 0
LacksInterval bit short n x z = z.moment + n * bit ≤ x.moment + short.ti * bit + (bit - 1)

-- Too early by the terminal gap: before its start it had heard no more quiet than the shortest gap less the amount, or so little as a
-- transmission has inside.
abbrev pub LacksGap : Course → ℕ → ℕ → ℕ → Timers → ℕ → Entry → Type 0
LacksGap c k drop bit short n z =
    (quiet : ℕ) → HasBeenQuiet c k quiet z.moment → (quiet + n * bit ≤ short.tg * bit + (bit - 1)) ⊎ (quiet < drop)

-- Too early by the synchronization gap: each stretch of quiet that it had heard behind its last start, with room for its terminal gap, was
-- no longer than the shortest gap less the amount, or was such as lies within a transmission.
abbrev pub LacksSync : Course → ℕ → ℕ → ℕ → Timers → ℕ → Entry → Entry → Type 0
LacksSync c k drop bit short n x z =
    (quiet t : ℕ) → x.moment + quiet ≤ t → HasBeenQuiet c k quiet t → t + short.tg * bit + (bit - 1) ≤ z.moment
    → (quiet + n * bit ≤ short.sg * bit + 2 * (bit - 1)) ⊎ (quiet < drop)

-- Late: by timers that are shorter than the longest by the rounding, or by more, it had been due for as long before its start, or longer.
abbrev pub WasDue : Course → ℕ → ℕ → Timers → ℕ → Entry → Entry → Type 0
WasDue c k bit longest n x z =
    (long : Timers) → long.ti + (bit - 1) ≤ longest.ti * bit → long.sg + (bit - 1) ≤ longest.sg * bit
    → long.tg + (bit - 1) ≤ longest.tg * bit → (t : ℕ) × (t + n * bit ≤ z.moment) × AreOver c k long x t

-- So it is, where it is found, of two transmissions of the terminal, the one the next behind the other.
pub record AreMeant (c : Course) (k drop bit : ℕ) (bounds : Bounds) (monitor : Monitor) (recording : List Seen) (o y : Seen)
    (x z : Entry) : Type 0 where
  pub row : AreInRow c.list k x z
  pub interval : (n : ℕ) → IsEarlyByInterval bounds n o y → LacksInterval bit bounds.short n x z
  pub gap : (n : ℕ) → IsEarlyByGap bounds monitor n recording y → LacksGap c k drop bit bounds.short n z
  pub sync : (n : ℕ) → 0 < n → IsEarlyBySync bounds monitor n recording o y → LacksSync c k drop bit bounds.short n x z
  pub late : (n : ℕ) → IsLate bounds monitor n recording o y → WasDue c k bit bounds.long n x z

-- The amounts that are found in a file are true of the bus that was recorded, by whatever numbers terminals are told.
abbrev pub FileAmountsAreTrue : Type 0
FileAmountsAreTrue =
    (c : Course) (k away reach drop bit start end longest : ℕ) (arrives : Entry → ℕ) (noted : Entry → Seen) (file : List Seen)
    (monitor : Monitor) (name : ℕ → ℕ) (bounds : Bounds) (o y : Seen) → 1 ≤ bit → IsPlaced c drop arrives k away → away ≤ reach
    → IsFile bit arrives noted start end c.list file → IsToldOf c arrives k reach drop bit start longest monitor
    → StartsApart bit k c.list → ((a b : ℕ) → name a ≡ name b → a ≡ b) → IsNext (all_renamed name file) o y → y.sender ≡ name k
    → (x : Entry) × (z : Entry) × StandsAs c.list k start noted name o x × StandsAs c.list k start noted name y z
    × AreMeant c k drop bit bounds monitor (all_renamed name file) o y x z

-- So is that of the terminal gap, be the start the first of the terminal in the file.
abbrev pub FileGapIsTrue : Type 0
FileGapIsTrue =
    (c : Course) (k away reach drop bit start end longest : ℕ) (arrives : Entry → ℕ) (noted : Entry → Seen) (file : List Seen)
    (monitor : Monitor) (name : ℕ → ℕ) (bounds : Bounds) (n : ℕ) (y : Seen) → 1 ≤ bit → IsPlaced c drop arrives k away → away ≤ reach
    → IsFile bit arrives noted start end c.list file → IsToldOf c arrives k reach drop bit start longest monitor
    → StartsApart bit k c.list → ((a b : ℕ) → name a ≡ name b → a ≡ b) → IsIn y (all_renamed name file) → y.sender ≡ name k
    → IsEarlyByGap bounds monitor n (all_renamed name file) y
    → (z : Entry) × StandsAs c.list k start noted name y z × LacksGap c k drop bit bounds.short n z
