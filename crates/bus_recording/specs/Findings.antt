-- The findings of a recording: what a terminal can't have done whose timers keep within their bounds. They are told by the recording alone,
-- each with an amount: `n` ticks or more. There is a finding where it is so by 1; its amount is the greatest n.
--   o, y   two starts of one terminal, y the next behind o
use Rattle.std.specs.Prelude.{◌≡◌, ◌≢◌, ℕ, ◌+◌, ◌-◌, ◌<◌, ◌≤◌, ◌⊎◌, List}
use Rattle.bus_recording.specs.Seen.{Bounds, IsIn, IsNext, Monitor, Seen}

-- n is the greatest of which this is so.
pub record IsGreatest (P : ℕ → Type 0) (n : ℕ) : Type 0 where
  pub so : P n
  pub most : (m : ℕ) → P m → m ≤ n

-- Too early by the transmit interval: it is n ticks, or more, until the shortest is over.
abbrev pub IsEarlyByInterval : Bounds → ℕ → Seen → Seen → Type 0
IsEarlyByInterval bounds n o y = y.moment + n ≤ o.moment + bounds.short.ti

-- At its start y a terminal has heard transmission r begin for certain: its own at once, another's within the reach.
abbrev pub HasHeardBegin : Monitor → Seen → Seen → Type 0
HasHeardBegin monitor r y = (r.moment + monitor.reach < y.moment) ⊎ ((r.sender ≡ y.sender) × (r.moment < y.moment))

-- Too early by the terminal gap: the terminal has heard a transmission begin for certain, and it is n ticks, or more, until the shortest
-- terminal gap has passed since the end of that one. A terminal gap that fits into a message tells nothing.
pub record IsEarlyByGap (bounds : Bounds) (monitor : Monitor) (n : ℕ) (recording : List Seen) (y : Seen) : Type 0 where
  pub wide : monitor.drop ≤ bounds.short.tg
  pub other : Seen
  pub there : IsIn other recording
  pub begun : HasHeardBegin monitor other y
  pub early : y.moment + n ≤ other.soonest + bounds.short.tg

-- From moment a to moment b terminal k has heard another's transmission for certain: it had heard it begin before b, and can't have heard
-- it end at a or before.
pub record IsMet (monitor : Monitor) (recording : List Seen) (k a b : ℕ) : Type 0 where
  pub other : Seen
  pub there : IsIn other recording
  pub foreign : other.sender ≢ k
  pub begun : other.moment + monitor.reach < b
  pub ended : a < other.soonest

-- Too early by the synchronization gap: in each stretch that lacks less than n ticks of the shortest, begins behind the terminal's own last
-- message and leaves room for the terminal gap, the terminal has heard somebody for certain. Stretches that fit into a message don't count.
pub record IsEarlyBySync (bounds : Bounds) (monitor : Monitor) (n : ℕ) (recording : List Seen) (o y : Seen) : Type 0 where
  pub wide : monitor.drop + n ≤ bounds.short.sg + 1
  pub met : (a length : ℕ) → bounds.short.sg < length + n → o.soonest ≤ a → a + length + bounds.short.tg ≤ y.moment
      → IsMet monitor recording y.sender a (a + length)

-- The terminal whose last start is o has, for certain, heard nothing from moment a to moment b: the bus is settled, its own last message is
-- over, and each other transmission begins at b or later or can't be heard any more at a.
pub record IsQuietForCertain (monitor : Monitor) (recording : List Seen) (o : Seen) (a b : ℕ) : Type 0 where
  pub recorded : monitor.settled ≤ a
  pub own : o.latest ≤ a
  pub others : (r : Seen) → IsIn r recording → (r ≡ o) ⊎ ((b ≤ r.moment) ⊎ (r.latest + monitor.rest ≤ a))

-- At moment t all timers of the terminal whose last start is o are over for certain: the longest interval has passed since that start, the
-- longest synchronization gap elapsed behind it, at moment `elapsed`, and the longest terminal gap behind that.
pub record IsOverForCertain (bounds : Bounds) (monitor : Monitor) (recording : List Seen) (o : Seen) (t : ℕ) : Type 0 where
  pub interval : o.moment + bounds.long.ti ≤ t
  pub elapsed : ℕ
  pub fits : bounds.long.sg ≤ elapsed
  pub synchronized : IsQuietForCertain monitor recording o (elapsed - bounds.long.sg) elapsed
  pub room : elapsed + bounds.long.tg ≤ t
  pub gap : IsQuietForCertain monitor recording o (t - bounds.long.tg) t

-- Too late: n ticks, or more, before its start all timers were over for certain.
pub record IsLate (bounds : Bounds) (monitor : Monitor) (n : ℕ) (recording : List Seen) (o y : Seen) : Type 0 where
  pub due : ℕ
  pub early : due + n ≤ y.moment
  pub over : IsOverForCertain bounds monitor recording o due

-- There is no finding at the start y behind o.
pub record HasNoFinding (bounds : Bounds) (monitor : Monitor) (recording : List Seen) (o y : Seen) : Type 0 where
  pub by_interval : IsEarlyByInterval bounds 1 o y → ⊥
  pub by_sync : IsEarlyBySync bounds monitor 1 recording o y → ⊥
  pub by_gap : IsEarlyByGap bounds monitor 1 recording y → ⊥
  pub late : IsLate bounds monitor 1 recording o y → ⊥

-- Terminal k has no finding in the recording: none at a start behind another of its own, and no start, be it the first, is too early by its
-- terminal gap.
pub record IsClean (bounds : Bounds) (monitor : Monitor) (recording : List Seen) (k : ℕ) : Type 0 where
  pub next : (o y : Seen) → IsNext recording o y → y.sender ≡ k → HasNoFinding bounds monitor recording o y
  pub each : (y : Seen) → IsIn y recording → y.sender ≡ k → IsEarlyByGap bounds monitor 1 recording y → ⊥
