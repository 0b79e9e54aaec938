-- What a finding says of what happened, and its amount: each is true of the terminal that it names, whatever the others did.
--   x, z   two transmissions of the terminal that are recorded one next behind the other
use Rattle.std.specs.Prelude.{◌≡◌, ℕ, ◌+◌, ◌<◌, ◌≤◌, ◌⊎◌, true, List}
use Rattle.bus_clocks.specs.Entries.{Entry, In}
use Rattle.bus_clocks.specs.Courses.{Course}
use Rattle.bus_recording.specs.Seen.{Bounds, IsIn, IsNext, Monitor, Seen, Timers}
use Rattle.bus_recording.specs.Findings.{IsEarlyByGap, IsEarlyByInterval, IsEarlyBySync, IsGreatest, IsLate}
use Rattle.bus_recording.specs.Keeping.{AreInRow, AreOver, HasBeenQuiet}
use Rattle.bus_recording.specs.Recordings.{IsRecording}

-- Two transmissions of terminal k that are recorded, z the next behind x.
pub record AreNext (list : List Entry) (k : ℕ) (seen : Entry → Seen) (recording : List Seen) (x z : Entry) : Type 0 where
  pub there : In x list
  pub here : In z list
  pub mine : x.sender ≡ k
  pub own : z.sender ≡ k
  pub next : IsNext recording (seen x) (seen z)

-- They are the terminal's next ones indeed.
abbrev pub NextAreInRow : Type 0
NextAreInRow =
    (c : Course) (monitor : Monitor) (k from ahead sway : ℕ) (seen : Entry → Seen) (recording : List Seen) (x z : Entry)
    → IsRecording c monitor k from ahead sway seen recording → AreNext c.list k seen recording x z → AreInRow c.list k x z

-- Early by the interval: the terminal's interval was shorter than the shortest by as much, but for the sway.
abbrev pub IntervalIsTrue : Type 0
IntervalIsTrue =
    (c : Course) (monitor : Monitor) (k from ahead sway : ℕ) (seen : Entry → Seen) (recording : List Seen) (bounds : Bounds) (n : ℕ)
    (x z : Entry)
    → IsRecording c monitor k from ahead sway seen recording → AreNext c.list k seen recording x z
    → IsEarlyByInterval bounds n (seen x) (seen z) → z.moment + n ≤ x.moment + bounds.short.ti + sway

-- With steady delays the amount is exact, to the tick.
abbrev pub IntervalIsExact : Type 0
IntervalIsExact =
    (c : Course) (monitor : Monitor) (k from ahead : ℕ) (seen : Entry → Seen) (recording : List Seen) (bounds : Bounds) (n : ℕ)
    (x z : Entry)
    → IsRecording c monitor k from ahead 0 seen recording → AreNext c.list k seen recording x z
    → IsGreatest (λ m. IsEarlyByInterval bounds m (seen x) (seen z)) n → z.moment + n ≡ x.moment + bounds.short.ti

-- Terminal k had heard a transmission begin before its start z, and heard carrier of it so late that n ticks, or more, lack of a terminal
-- gap of `tg`.
pub record HasHeardNear (c : Course) (k tg n : ℕ) (z : Entry) : Type 0 where
  pub other : Entry
  pub there : In other c.list
  pub first : ℕ
  pub last : ℕ
  pub first_heard : c.hears other k first ≡ true
  pub last_heard : c.hears other k last ≡ true
  pub begun : first < z.moment
  pub near : z.moment + n ≤ last + 1 + tg

-- Early by the terminal gap: so the terminal had heard somebody begin, and carrier of it so near.
abbrev pub GapIsNear : Type 0
GapIsNear =
    (c : Course) (monitor : Monitor) (k from ahead sway : ℕ) (seen : Entry → Seen) (recording : List Seen) (bounds : Bounds) (n : ℕ)
    (z : Entry)
    → IsRecording c monitor k from ahead sway seen recording → In z c.list → z.sender ≡ k → IsIn (seen z) recording
    → IsEarlyByGap bounds monitor n recording (seen z) → HasHeardNear c k (bounds.short.tg + sway) n z

-- And before its start it had heard no more quiet than the shortest gap less the amount, but for the sway, or so little
-- as a transmission has inside.
abbrev pub GapIsTrue : Type 0
GapIsTrue =
    (c : Course) (monitor : Monitor) (k from ahead sway : ℕ) (seen : Entry → Seen) (recording : List Seen) (bounds : Bounds) (n : ℕ)
    (z : Entry)
    (quiet : ℕ) → IsRecording c monitor k from ahead sway seen recording → In z c.list → z.sender ≡ k → IsIn (seen z) recording
    → IsEarlyByGap bounds monitor n recording (seen z) → HasBeenQuiet c k quiet z.moment
    → (quiet + n ≤ bounds.short.tg + sway) ⊎ (quiet < monitor.drop)

-- Early by the synchronization gap: each stretch of quiet that the terminal had heard behind its last start, with room for its terminal gap
-- and the sway, was no longer than the shortest gap less the amount, but for the sway, or was such as lies within a transmission.
abbrev pub SyncIsTrue : Type 0
SyncIsTrue =
    (c : Course) (monitor : Monitor) (k from ahead sway : ℕ) (seen : Entry → Seen) (recording : List Seen) (bounds : Bounds) (n : ℕ)
    (x z : Entry)
    (quiet t : ℕ) → IsRecording c monitor k from ahead sway seen recording → AreNext c.list k seen recording x z
    → IsEarlyBySync bounds monitor n recording (seen x) (seen z) → x.moment + quiet ≤ t → HasBeenQuiet c k quiet t
    → t + bounds.short.tg + sway ≤ z.moment → (quiet + n ≤ bounds.short.sg + sway) ⊎ (quiet < monitor.drop)

-- Late: by timers that are shorter than the longest by the sway, or by more, the terminal had been due as many ticks before its start, or
-- earlier.
abbrev pub LateIsTrue : Type 0
LateIsTrue =
    (c : Course) (monitor : Monitor) (k from ahead sway : ℕ) (seen : Entry → Seen) (recording : List Seen) (bounds : Bounds) (long : Timers)
    (n : ℕ) (x z : Entry) → IsRecording c monitor k from ahead sway seen recording → AreNext c.list k seen recording x z
    → long.ti + sway ≤ bounds.long.ti → long.sg + sway ≤ bounds.long.sg → long.tg + sway ≤ bounds.long.tg
    → IsLate bounds monitor n recording (seen x) (seen z) → (t : ℕ) × (t + n ≤ z.moment) × AreOver c k long x t
