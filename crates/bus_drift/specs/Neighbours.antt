-- Conditions that are weaker by one tick are too weak: for each a bus that lacks it by one, and a course on it.
use Rattle.std.specs.Prelude.{◌≡◌, ℕ, ◌+◌, ◌-◌, ◌*◌, ◌<◌, ◌≤◌, ◌⊎◌, length}
use Rattle.bus_clocks.specs.Buses.{Bus, sum_below}
use Rattle.bus_clocks.specs.Entries.{Entry, In}
use Rattle.bus_clocks.specs.Courses.{Course, IsCourse}
use Rattle.bus_clocks.specs.Order.{AreEven}
use Rattle.bus_drift.specs.Beginning.{Begins}
use Rattle.bus_drift.specs.InTurn.{IsDue}
use Rattle.bus_drift.specs.Leading.{AreOffsets, round_end}
use Rattle.bus_drift.specs.Room.{NoneOvertaken, HearsOut, HasRoomForSync, BeginsApart, BeginsInTurn}
use Rattle.bus_drift.specs.Turns.{who, slowest, fastest, turn}

-- A bus, what happens on it, and when its senders are due for the first time.
pub record Case : Type 0 where
  pub bus : Bus
  pub c : Course
  pub soon : ℕ → ℕ
  pub late : ℕ → ℕ
  pub ok : IsCourse bus c
  pub even : AreEven bus c
  pub begins : Begins bus c 0 soon late

-- Two senders begin at the same moment.
pub record Collides (c : Course) : Type 0 where
  pub x : Entry
  pub y : Entry
  pub x_there : In x c.list
  pub y_there : In y c.list
  pub other : x.sender ≡ y.sender → ⊥
  pub same : x.moment ≡ y.moment

-- As `NoneOvertaken`, but for one tick.
abbrev pub AlmostNone : Bus → Type 0
AlmostNone bus =
    (i j k : ℕ) → i < bus.senders → i ≤ j → j < k → k < i + bus.senders
    → (i ≡ j) ⊎ (bus.tg_short (who bus k) ≤ bus.tg_long (who bus j) + 2 * bus.delay)
    → bus.ti_long (who bus i) + slowest bus i j + bus.delay ≤ bus.ti_short (who bus k) + fastest bus i k

-- A bus that leaves room for turns but for one tick where nobody is overtaken: two begin at the same moment.
pub record OneTickCollides : Type 0 where
  pub case : Case
  pub hearing : HearsOut case.bus
  pub sync : HasRoomForSync case.bus
  pub almost : AlmostNone case.bus
  pub begin : BeginsInTurn case.bus case.soon case.late
  pub collides : Collides case.c

-- As `HasRoomForSync`, but for one tick.
pub record AlmostRoom (bus : Bus) : Type 0 where
  pub gaps : (j k : ℕ) → j < bus.senders → k < bus.senders → bus.tg_long j < bus.sg_long k
  pub room : (k : ℕ) → k < bus.senders
      → sum_below bus.longest bus.senders + bus.senders * bus.sg_long k + bus.tg_long k + (bus.senders - 1) * bus.delay
      ≤ bus.ti_long k + bus.senders

-- A bus that leaves room for turns but for one tick of this: turn n waits for its synchronization gap.
pub record OneTickIsLate : Type 0 where
  pub case : Case
  pub hearing : HearsOut case.bus
  pub almost : AlmostRoom case.bus
  pub order : NoneOvertaken case.bus
  pub begin : BeginsInTurn case.bus case.soon case.late
  pub n : ℕ
  pub there : n < length case.c.list
  pub waits : IsDue case.bus case.c case.late n (turn case.c n).moment → ⊥

-- As room for the first sender to lead, but for so many ticks where nobody is overtaken, and in the quiet that synchronizes the first
-- sender.
pub record AlmostLeads (bus : Bus) (soon late offset : ℕ → ℕ) (overtaken quiet : ℕ) : Type 0 where
  pub hearing : HearsOut bus
  pub clock : (k : ℕ) → 0 < k → k < bus.senders → bus.ti_long k ≤ bus.ti_short 0
  pub offsets : AreOffsets bus soon late offset
  pub order : (i j k : ℕ) → i ≤ j → j < k → k < bus.senders → (i ≡ j) ⊎ (bus.tg_short k ≤ bus.tg_long j + 2 * bus.delay)
      → bus.ti_long i + slowest bus i j + bus.delay < bus.ti_short k + fastest bus i k + overtaken
  pub opening : round_end bus offset + bus.delay + bus.sg_long 0 + bus.tg_long 0 ≤ bus.ti_long 0 + quiet
  pub room : (k : ℕ) → 0 < k → k < bus.senders → round_end bus offset + bus.delay + bus.sg_long k ≤ bus.ti_short 0
  pub begin : BeginsApart bus soon late

-- A bus with a leader where one tick is lacking in the former, and two begin at the same moment.
pub record OneTickUnled : Type 0 where
  pub case : Case
  pub offset : ℕ → ℕ
  pub almost : AlmostLeads case.bus case.soon case.late offset 1 0
  pub collides : Collides case.c

-- And one where it is lacking in the latter: turn n of the first sender is held.
pub record OneTickHeld : Type 0 where
  pub case : Case
  pub offset : ℕ → ℕ
  pub almost : AlmostLeads case.bus case.soon case.late offset 0 1
  pub n : ℕ
  pub there : n < length case.c.list
  pub mine : who case.bus n ≡ 0
  pub on : case.bus.senders ≤ n
  pub held : (turn case.c (n - case.bus.senders)).moment + case.bus.ti_long 0 < (turn case.c n).moment
