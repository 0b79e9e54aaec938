-- How this rule and that of exact timers, `bus_timers`, go together: what a sender has heard allows a start by its short timers where it
-- starts, and where it allows one by its long timers, it starts. So with exact timers the two rules are one.
use Rattle.std.specs.Prelude.{◌≡◌, ℕ, zero, suc, ◌+◌, ◌-◌, ◌<◌, ◌≤◌, ◌↔◌, Bool, List, [], ◌∷◌, ◌++◌, Option, Some, None}
use Rattle.bus_timers.specs.declared.timing.Timing.{Timing}
use Rattle.bus_timers.specs.MayStart.{MayStart as Allows}
use Rattle.bus_clocks.specs.Buses.{Bus}
use Rattle.bus_clocks.specs.Entries.{Entry, In, IsAscending}
use Rattle.bus_clocks.specs.Courses.{Course, HasEntry, HasLeft, IsCourse, MayStart, carrier}
use Rattle.bus_clocks.specs.Hearing.{Hears}

-- What sender k hears in the first n ticks behind its power-up.
abbrev pub bits : Course → ℕ → ℕ → List Bool
bits c k zero = []
bits c k (suc n) = bits c k n ++ carrier c k (c.up k + n) ∷ []

-- What sender k has heard at moment t.
abbrev pub past : Course → ℕ → ℕ → List Bool
past c k t = bits c k (t - c.up k)

-- The last start of sender k before moment t has this place in it.
abbrev pub IsLast : Course → ℕ → ℕ → Option ℕ → Type 0
IsLast c k t None = (x : Entry) → In x c.list → x.sender ≡ k → x.moment < t → ⊥
IsLast c k t (Some place) = (x : Entry) × In x c.list × (x.sender ≡ k) × (x.moment < t) × (x.moment ≡ c.up k + place)
    × ((y : Entry) → In y c.list → y.sender ≡ k → y.moment < t → y.moment ≤ x.moment)

-- Timers of exactly these lengths, where the transmit interval counts as elapsed before a first start.
abbrev pub timing : ℕ → ℕ → ℕ → Timing
timing ti sg tg = record { ti = ti; sg = sg; tg = tg; quiet = 0; due = 0 }

-- Each timer of sender k takes its time, from its power-up on.
pub record IsTimed (c : Course) (k ti sg tg : ℕ) : Type 0 where
  pub ti_low : (a : ℕ) → ti ≤ c.ti k a
  pub sg_low : (a : ℕ) → sg ≤ c.sg k a
  pub tg_low : (a : ℕ) → tg ≤ c.tg k a

-- Where a sender may start, its short timers allow it.
abbrev pub StartsAreAllowed : Type 0
StartsAreAllowed =
    (bus : Bus) (c : Course) (k t ti sg tg : ℕ) (last : Option ℕ) → IsCourse bus c → k < bus.senders → IsTimed c k ti sg tg
    → IsLast c k t last → MayStart c k t → Allows (timing ti sg tg) (past c k t) last

-- Where its long timers allow it, it may start.
abbrev pub AllowedStart : Type 0
AllowedStart =
    (bus : Bus) (c : Course) (k t : ℕ) (last : Option ℕ) → IsCourse bus c → k < bus.senders → 0 < bus.sg_long k → c.up k ≤ t
    → c.due k ≤ c.up k → IsLast c k t last → Allows (timing (bus.ti_long k) (bus.sg_long k) (bus.tg_long k)) (past c k t) last
    → MayStart c k t

-- With exact timers a sender may start exactly where `bus_timers` says so.
abbrev pub ExactTimersAgree : Type 0
ExactTimersAgree =
    (bus : Bus) (c : Course) (k t : ℕ) (last : Option ℕ) → IsCourse bus c → k < bus.senders → 0 < bus.sg_long k → c.up k ≤ t
    → c.due k ≤ c.up k → IsTimed c k (bus.ti_long k) (bus.sg_long k) (bus.tg_long k) → IsLast c k t last
    → MayStart c k t ↔ Allows (timing (bus.ti_long k) (bus.sg_long k) (bus.tg_long k)) (past c k t) last

-- This is admissible on the bus: a sender starts only where its short timers allow it and it has a message left, and does start where its
-- long timers do. That leaves open whether a quiet between the two has synchronized it: it may have for one start, and not for another.
pub record IsAdmissible (bus : Bus) (c : Course) : Type 0 where
  pub ordered : IsAscending c.list
  pub sent : (x : Entry) → In x c.list → (x.sender < bus.senders) × (x.moment < c.horizon) × (bus.shortest x.sender ≤ x.length)
      × (x.length ≤ bus.longest x.sender)
  pub allowed : (x : Entry) (last : Option ℕ) → In x c.list → IsLast c x.sender x.moment last
      → Allows (timing (bus.ti_short x.sender) (bus.sg_short x.sender) (bus.tg_short x.sender)) (past c x.sender x.moment) last
  pub left : (x : Entry) → In x c.list → HasLeft c x.sender x.moment
  pub demanded : (k t : ℕ) (last : Option ℕ) → k < bus.senders → t < c.horizon → c.up k ≤ t → IsLast c k t last
      → Allows (timing (bus.ti_long k) (bus.sg_long k) (bus.tg_long k)) (past c k t) last → HasLeft c k t → HasEntry c.list k t
  pub own : (x : Entry) → In x c.list → Hears c.hears 0 bus.drop x x.sender
  pub others : (x : Entry) (n : ℕ) → In x c.list → Hears c.hears bus.delay bus.drop x n

-- Every course that begins cold is admissible: each timer takes its time from each power-up on, and no transmit interval is running there.
abbrev pub CoursesAreAdmissible : Type 0
CoursesAreAdmissible =
    (bus : Bus) (c : Course) → IsCourse bus c → ((k : ℕ) → k < bus.senders → (0 < bus.sg_long k) × (c.due k ≤ c.up k))
    → ((k : ℕ) → k < bus.senders → IsTimed c k (bus.ti_short k) (bus.sg_short k) (bus.tg_short k)) → IsAdmissible bus c
