-- A recording in whole bit times, rounded down, of what happens in ticks that are shorter.
--   bit   how many ticks a bit time has
use Rattle.std.specs.Prelude.{◌≡◌, ℕ, ◌+◌, ◌-◌, ◌*◌, ◌<◌, ◌≤◌, List, [], ◌∷◌}
use Rattle.bus_clocks.specs.Entries.{Entry, In}
use Rattle.bus_clocks.specs.Buses.{Bus}
use Rattle.bus_clocks.specs.Courses.{Course, IsCourse}
use Rattle.bus_recording.specs.Seen.{Bounds, IsIn, IsNext, Monitor, Seen, Timers}
use Rattle.bus_recording.specs.Findings.{IsClean, IsEarlyByGap, IsEarlyByInterval, IsEarlyBySync, IsLate}
use Rattle.bus_recording.specs.Keeping.{KeepsBounds}
use Rattle.bus_recording.specs.Recordings.{IsRecording}
use Rattle.bus_recording.specs.Just.{AreWithin}
use Rattle.bus_recording.specs.Bounded.{bounds_of}
use Rattle.bus_recording.specs.Monitors.{IsPlaced, IsSettled, monitor_of, seen_by}

-- Lengths in ticks.
abbrev pub ticks_of : ℕ → Timers → Timers
ticks_of bit timers = record { ti = timers.ti * bit; sg = timers.sg * bit; tg = timers.tg * bit }

-- Bounds in ticks.
abbrev pub bounds_in_ticks : ℕ → Bounds → Bounds
bounds_in_ticks bit bounds = record { short = ticks_of bit bounds.short; long = ticks_of bit bounds.long }

-- What is noted in bit times, counted in ticks.
abbrev pub in_ticks : ℕ → Seen → Seen
in_ticks bit r = record { moment = r.moment * bit; sender = r.sender; soonest = r.soonest * bit; latest = r.latest * bit }

-- The same of all.
abbrev pub all_in_ticks : ℕ → List Seen → List Seen
all_in_ticks bit [] = []
all_in_ticks bit (r ∷ list) = in_ticks bit r ∷ all_in_ticks bit list

-- What is known of the monitor, told in ticks: what is noted to begin may have begun later, by less than a bit time; and nobody hears
-- `drop` quiet ticks in a row within a transmission.
abbrev pub finer : ℕ → ℕ → Monitor → Monitor
finer bit drop coarse = record {
  reach = coarse.reach * bit + (bit - 1);
  rest = coarse.rest * bit;
  drop = drop;
  settled = coarse.settled * bit;
}

-- What is next in bit times is next in ticks.
abbrev pub NextInTicks : Type 0
NextInTicks =
    (bit : ℕ) (recording : List Seen) (o y : Seen) → 1 ≤ bit → IsNext recording o y
    → IsNext (all_in_ticks bit recording) (in_ticks bit o) (in_ticks bit y)

-- What is found in bit times is found in ticks, with its amount. So it is of the interval.
abbrev pub IntervalInTicks : Type 0
IntervalInTicks =
    (bit n : ℕ) (bounds : Bounds) (o y : Seen) → IsEarlyByInterval bounds n o y
    → IsEarlyByInterval (bounds_in_ticks bit bounds) (n * bit) (in_ticks bit o) (in_ticks bit y)

-- So it is of the terminal gap.
abbrev pub GapInTicks : Type 0
GapInTicks =
    (bit drop n : ℕ) (coarse : Monitor) (bounds : Bounds) (recording : List Seen) (y : Seen) → 1 ≤ bit → drop ≤ coarse.drop * bit
    → IsEarlyByGap bounds coarse n recording y
    → IsEarlyByGap (bounds_in_ticks bit bounds) (finer bit drop coarse) (n * bit) (all_in_ticks bit recording) (in_ticks bit y)

-- So it is of the synchronization gap, with an amount that is smaller by less than a bit time.
abbrev pub SyncInTicks : Type 0
SyncInTicks =
    (bit drop n : ℕ) (coarse : Monitor) (bounds : Bounds) (recording : List Seen) (o y : Seen) → 1 ≤ bit → drop ≤ coarse.drop * bit → 0 < n
    → IsEarlyBySync bounds coarse n recording o y
    → IsEarlyBySync (bounds_in_ticks bit bounds) (finer bit drop coarse) (n * bit - (bit - 1)) (all_in_ticks bit recording) (in_ticks bit o)
    (in_ticks bit y)

-- So it is of late starts.
abbrev pub LateInTicks : Type 0
LateInTicks =
    (bit drop n : ℕ) (coarse : Monitor) (bounds : Bounds) (recording : List Seen) (o y : Seen) → 1 ≤ bit
    → IsLate bounds coarse n recording o y
    → IsLate (bounds_in_ticks bit bounds) (finer bit drop coarse) (n * bit) (all_in_ticks bit recording) (in_ticks bit o) (in_ticks bit y)

-- What is recorded in ticks as r is noted in bit times as n: its beginning is rounded down, its soonest end is noted no later than it is,
-- and its latest end earlier by less than a bit time at most.
pub record IsNoted (bit : ℕ) (r n : Seen) : Type 0 where
  pub sender : n.sender ≡ r.sender
  pub begins : n.moment * bit ≤ r.moment
  pub begun : r.moment < n.moment * bit + bit
  pub ends : n.soonest * bit ≤ r.soonest
  pub ended : r.latest < n.latest * bit + bit

-- Of a transmission whose beginning is rounded down, and that lasts a number of bit times, up to an error, the ends are noted so: by the
-- bit times less and plus the error.
abbrev pub EndsAreNoted : Type 0
EndsAreNoted =
    (bit moment bits error : ℕ) (arrives : Entry → ℕ) (x : Entry) → moment * bit ≤ arrives x → arrives x < moment * bit + bit
    → (bits - error) * bit ≤ x.length → x.length ≤ (bits + error) * bit
    → IsNoted bit (seen_by arrives x) (record {
      moment = moment;
      sender = x.sender;
      soonest = moment + (bits - error);
      latest = moment + (bits + error);
    })

-- The same transmissions are recorded in ticks and noted in bit times.
pub record IsRounded (bit : ℕ) (list : List Entry) (seen noted : Entry → Seen) (recording rounded : List Seen) : Type 0 where
  pub so : (x : Entry) → In x list → IsNoted bit (seen x) (noted x)
  pub each : (n : Seen) → IsIn n rounded → (x : Entry) × In x list × (n ≡ noted x)
  pub all : (x : Entry) → In x list → IsIn (seen x) recording → IsIn (noted x) rounded
  pub back : (x : Entry) → In x list → IsIn (noted x) rounded → IsIn (seen x) recording

-- What is known of the monitor in bit times is no less than what is known of it in ticks; only when the bus is settled may be rounded down.
pub record IsCoarser (bit : ℕ) (fine coarse : Monitor) : Type 0 where
  pub reach : fine.reach ≤ coarse.reach * bit
  pub rest : fine.rest ≤ coarse.rest * bit
  pub drop : fine.drop ≤ coarse.drop * bit
  pub settled : fine.settled < coarse.settled * bit + bit

-- So what is noted is a recording in ticks, whose delays sway by less than a bit time more, where recorded starts of the terminal are a bit
-- time apart, or more.
abbrev pub RoundedIsRecorded : Type 0
RoundedIsRecorded =
    (c : Course) (fine coarse : Monitor) (k from ahead sway bit : ℕ) (seen noted : Entry → Seen) (recording rounded : List Seen)
    → IsRecording c fine k from ahead sway seen recording → IsRounded bit c.list seen noted recording rounded → 1 ≤ bit
    → IsCoarser bit fine coarse
    → ((x z : Entry) → In x c.list → In z c.list → x.sender ≡ k → z.sender ≡ k → x.moment < z.moment → IsIn (seen x) recording
    → (seen x).moment + bit ≤ (seen z).moment)
    → IsRecording c (finer bit fine.drop coarse) k from ahead (sway + (bit - 1)) (λ x. in_ticks bit (noted x)) (all_in_ticks bit rounded)

-- Rounding adds less than a bit time to the sway: whatever recording in ticks it is of, what keeps its bounds has no finding in whole bit
-- times, by bounds that are wider by that, where the terminal's own messages and gaps last longer.
abbrev pub RoundedIsClean : Type 0
RoundedIsClean =
    (c : Course) (fine coarse : Monitor) (k from ahead sway bit : ℕ) (seen noted : Entry → Seen) (recording rounded : List Seen)
    (kept bounds : Bounds) → KeepsBounds c kept k from → IsRecording c fine k from ahead sway seen recording
    → IsRounded bit c.list seen noted recording rounded → 1 ≤ bit → IsCoarser bit fine coarse
    → AreWithin (sway + (bit - 1)) kept (bounds_in_ticks bit bounds) → fine.drop ≤ kept.short.tg
    → ((x : Entry) → In x c.list → x.sender ≡ k → sway + bit ≤ x.length + kept.short.tg) → IsClean bounds coarse rounded k

-- The recording has what is noted to begin from bit time `start` on, and nothing else.
pub record IsNotedFrom (bit : ℕ) (arrives : Entry → ℕ) (noted : Entry → Seen) (start : ℕ) (list : List Entry)
    (recording : List Seen) : Type 0 where
  pub so : (x : Entry) → In x list → IsNoted bit (seen_by arrives x) (noted x)
  pub each : (n : Seen) → IsIn n recording → (x : Entry) × In x list × (n ≡ noted x)
  pub all : (x : Entry) → In x list → start ≤ (noted x).moment → IsIn (noted x) recording
  pub since : (x : Entry) → In x list → IsIn (noted x) recording → start ≤ (noted x).moment

-- So one terminal on a cable that keeps its bounds has no finding in what a monitor notes in whole bit times from bit time `start` on,
-- whatever the others do: the bounds are to be wider by less than a bit time.
abbrev pub NotedIsClean : Type 0
NotedIsClean =
    (c : Course) (k from away reach drop bit start longest settled : ℕ) (arrives : Entry → ℕ) (noted : Entry → Seen) (recording : List Seen)
    (coarse : Monitor) (kept bounds : Bounds) → KeepsBounds c kept k from → IsPlaced c drop arrives k away → away ≤ reach
    → IsNotedFrom bit arrives noted start c.list recording → IsSettled c arrives k reach (start * bit) longest settled
    → from ≤ start * bit - away → 1 ≤ bit
    → IsCoarser bit (monitor_of reach drop settled) coarse
    → AreWithin (bit - 1) kept (bounds_in_ticks bit bounds) → drop ≤ kept.short.tg
    → ((x : Entry) → In x c.list → x.sender ≡ k → bit ≤ x.length + kept.short.tg) → IsClean bounds coarse recording k

-- So in every course of a bus within bounds, noted in whole bit times, in both modes, no sender has a finding.
abbrev pub NotedCourseIsClean : Type 0
NotedCourseIsClean =
    (bus : Bus) (c : Course) (k away reach drop bit start longest settled : ℕ) (arrives : Entry → ℕ) (noted : Entry → Seen)
    (recording : List Seen) (coarse : Monitor) (bounds : Bounds) → IsCourse bus c → k < bus.senders → 0 < bus.sg_long k
    → IsPlaced c drop arrives k away → away ≤ reach → IsNotedFrom bit arrives noted start c.list recording
    → IsSettled c arrives k reach (start * bit) longest settled → 1 ≤ bit
    → IsCoarser bit (monitor_of reach drop settled) coarse → AreWithin (bit - 1) (bounds_of bus k) (bounds_in_ticks bit bounds)
    → drop ≤ bus.tg_short k → bit ≤ bus.shortest k + bus.tg_short k → IsClean bounds coarse recording k
