-- What a bus does behind a fault: a moment at which the timers of all that are powered up stand in any state, and messages may be on the
-- way.
use Rattle.std.specs.Prelude.{◌≡◌, ℕ, ◌+◌, ◌-◌, ◌<◌, ◌≤◌, ◌⊎◌, ◌↔◌, ◌&&◌, ◌||◌, ◌==◌, Bool, true, false, nat_le, nat_lt, cond}
use Rattle.std.specs.Prelude.{List, length, filter}
use Rattle.std.specs.Option.{option_map}
use Rattle.bus_clocks.specs.Buses.{Bus, among}
use Rattle.bus_clocks.specs.Entries.{Entry, end_of, In, own, IsAscending}
use Rattle.bus_clocks.specs.Hearing.{Hears, hears_any}
use Rattle.bus_clocks.specs.Courses.{Course, carrier, IsQuiet, Begins, HasEntry, HasLeft, HaveLeft, IsFresh, IsCourse, IsLeftAlone}
use Rattle.bus_clocks.specs.Room.{LeavesRoom, StartsItself}
use Rattle.bus_clocks.specs.Rounds.{most_spoken}
use Rattle.bus_clocks.specs.Settling.{HasSettled}

-- What the timers of each sender have left at the fault:
--   wait   of its synchronization gap, if all stays quiet: nothing where it has elapsed
--   gap    of its terminal gap, if its synchronization gap has elapsed and all stays quiet
--   rest   of its transmit interval.
pub record TimersLeft : Type 0 where
  pub wait : ℕ → ℕ
  pub gap : ℕ → ℕ
  pub rest : ℕ → ℕ

-- Whether a timer that sender k begins at moment a is one that stands there since the fault.
abbrev pub stands : Course → ℕ → ℕ → ℕ → Bool
stands c fault k a = (a == fault) && nat_le (c.up k) fault

-- How long it takes: the synchronization gap, and the terminal gap.
abbrev pub wait_at : Course → ℕ → TimersLeft → ℕ → ℕ → ℕ
wait_at c fault left k a = cond (stands c fault k a) (left.wait k) (c.sg k a)

abbrev pub gap_at : Course → ℕ → TimersLeft → ℕ → ℕ → ℕ
gap_at c fault left k a = cond (stands c fault k a) (left.gap k) (c.tg k a)

-- When the transmit interval that runs at the fault, or at a later power-up, has elapsed.
abbrev pub rest_at : Course → ℕ → TimersLeft → ℕ → ℕ
rest_at c fault left k = cond (nat_le (c.up k) fault) (fault + left.rest k) (c.due k)

-- The synchronization gap of sender k elapses at moment e: it stands since the fault, or was begun behind it where quiet begins, and all
-- has been quiet since.
pub record SyncBehind (c : Course) (fault : ℕ) (left : TimersLeft) (k e : ℕ) : Type 0 where
  pub from : ℕ
  pub begins : ((from ≡ fault) × (c.up k ≤ fault)) ⊎ ((fault < from) × Begins c k from)
  pub quiet : IsQuiet c k from e
  pub elapsed : from + wait_at c fault left k from ≡ e

-- Behind the fault the three timers of sender k let it start at moment t: as without a fault, where each may stand since the fault, and
-- what it sent before counts for nothing.
pub record MayStartBehind (c : Course) (fault : ℕ) (left : TimersLeft) (k t : ℕ) : Type 0 where
  pub sync : ℕ
  pub synced : SyncBehind c fault left k sync
  pub none : (x : Entry) → In x c.list → x.sender ≡ k → fault ≤ x.moment → x.moment < t → x.moment < sync
  pub from : ℕ
  pub begins : (from ≡ sync) ⊎ ((sync < from) × (carrier c k (from - 1) ≡ true))
  pub quiet : IsQuiet c k from t
  pub terminal : from + gap_at c fault left k from ≤ t
  pub due : rest_at c fault left k ≤ t
  pub interval : (x : Entry) → In x c.list → x.sender ≡ k → fault ≤ x.moment → x.moment < t
      → ((y : Entry) → In y c.list → y.sender ≡ k → fault ≤ y.moment → y.moment < t → y.moment ≤ x.moment) → x.moment + c.ti k x.moment ≤ t

-- This may happen behind the fault, whatever was sent before it: as on a bus without a fault, from the fault on.
pub record IsBehindFault (bus : Bus) (c : Course) (fault : ℕ) (left : TimersLeft) : Type 0 where
  pub ordered : IsAscending c.list
  pub sent : (x : Entry) → In x c.list → (x.sender < bus.senders) × (x.moment < c.horizon) × (bus.shortest x.sender ≤ x.length)
      × (x.length ≤ bus.longest x.sender)
  pub exact : (k t : ℕ) → k < bus.senders → fault ≤ t → t < c.horizon
      → HasEntry c.list k t ↔ (MayStartBehind c fault left k t × HasLeft c k t)
  pub own : (x : Entry) → In x c.list → Hears c.hears 0 bus.drop x x.sender
  pub others : (x : Entry) (n : ℕ) → In x c.list → Hears c.hears bus.delay bus.drop x n
  pub tg_low : (k a : ℕ) → k < bus.senders → IsFresh c k a → stands c fault k a ≡ false → bus.tg_short k ≤ c.tg k a
  pub tg_high : (k a : ℕ) → k < bus.senders → c.tg k a ≤ bus.tg_long k
  pub sg_low : (k a : ℕ) → k < bus.senders → IsFresh c k a → stands c fault k a ≡ false → bus.sg_short k ≤ c.sg k a
  pub sg_high : (k a : ℕ) → k < bus.senders → c.sg k a ≤ bus.sg_long k
  pub ti_low : (k a : ℕ) → k < bus.senders → bus.ti_short k ≤ c.ti k a
  pub ti_high : (k a : ℕ) → k < bus.senders → c.ti k a ≤ bus.ti_long k
  pub wait : (k : ℕ) → k < bus.senders → left.wait k ≤ bus.sg_long k
  pub gap : (k : ℕ) → k < bus.senders → left.gap k ≤ bus.tg_long k
  pub rest : (k : ℕ) → k < bus.senders → left.rest k ≤ bus.ti_long k

-- The fault is over at moment `up`: it has been, by then the longest transmit interval has elapsed that may have run at the fault, what
-- was on the way has been heard, all have been powered up, and nothing else is heard.
pub record IsFaultOver (bus : Bus) (c : Course) (fault up : ℕ) : Type 0 where
  pub begun : fault ≤ up
  pub rest : (k : ℕ) → k < bus.senders → fault + bus.ti_long k ≤ up
  pub way : (x : Entry) → In x c.list → x.moment < fault → end_of x + bus.delay ≤ up
  pub powered : (k : ℕ) → k < bus.senders → c.up k ≤ up
  pub due : (k : ℕ) → k < bus.senders → fault < c.up k → c.due k ≤ up
  pub still : (n t : ℕ) → up ≤ t → c.noise n t ≡ false

-- The transmissions that begin at moment t or later.
abbrev pub behind : ℕ → List Entry → List Entry
behind t list = filter (λ x. nat_le t x.moment) list

-- The transmissions that begin before moment t.
abbrev pub until : ℕ → List Entry → List Entry
until t list = filter (λ x. nat_lt x.moment t) list

-- The same, told as a course that begins at the fault: who was powered up before is powered up there, what was sent before is noise, and
-- an interval that ran is a first due.
abbrev pub rebased : Course → ℕ → TimersLeft → Course
rebased c fault left = record {
  up = λ k. cond (nat_le (c.up k) fault) fault (c.up k);
  due = rest_at c fault left;
  tg = gap_at c fault left;
  sg = wait_at c fault left;
  ti = c.ti;
  messages = λ k. option_map (λ n. n - length (own c.list k fault)) (c.messages k);
  noise = λ n t. c.noise n t || hears_any c.hears (until fault c.list) n t;
  hears = c.hears;
  horizon = c.horizon;
  list = behind fault c.list;
}

-- What a bus does behind a fault is a course, which is left alone from the moment on at which the fault is over.
abbrev pub FaultsAreCourses : Type 0
FaultsAreCourses =
    (bus : Bus) (c : Course) (fault : ℕ) (left : TimersLeft) → IsBehindFault bus c fault left
    → IsCourse bus (rebased c fault left) × ((up : ℕ) → IsFaultOver bus c fault up → IsLeftAlone bus (rebased c fault left) up)

-- So a bus with room that starts itself comes into order by itself behind every fault, as long as messages are left.
abbrev pub FaultsSettle : Type 0
FaultsSettle =
    (bus : Bus) (c : Course) (fault : ℕ) (left : TimersLeft) (up sg : ℕ) → LeavesRoom bus → StartsItself bus
    → IsBehindFault bus c fault left → HaveLeft bus c → fault < c.horizon → IsFaultOver bus c fault up
    → ((k : ℕ) → k < bus.senders → bus.sg_long k ≤ sg)
    → (origin : ℕ) × (origin + (among bus).delay ≤ up + sg + most_spoken (among bus)) × HasSettled bus (rebased c fault left) up origin

-- A fault may change nothing: whatever a course does, it goes on behind any moment as behind a fault, with what its timers have left
-- there; where no transmit interval that was running at a power-up outlasts the longest one from there on.
abbrev pub CoursesGoOn : Type 0
CoursesGoOn =
    (bus : Bus) (c : Course) (fault : ℕ) → IsCourse bus c → ((k : ℕ) → k < bus.senders → c.due k ≤ fault + bus.ti_long k)
    → (left : TimersLeft) × IsBehindFault bus c fault left
