-- There is such a course, whatever the timers take, whatever is heard, however long each transmission lasts and however many messages
-- there are.
use Rattle.std.specs.Prelude.{◌≡◌, ℕ, ◌<◌, ◌≤◌, ◌⊎◌, ◌↔◌, List}
use Rattle.bus_clocks.specs.Buses.{Bus}
use Rattle.bus_clocks.specs.Entries.{Entry, In}
use Rattle.bus_clocks.specs.Hearing.{Hears}
use Rattle.bus_clocks.specs.Courses.{Course, IsCourse}

-- The course with this list of transmissions in place of its own.
abbrev pub with_list : Course → List Entry → Course
with_list c list = record c { list = list }

-- A timer that sender k begins at moment a takes its time, unless it was powered up there, and nobody before it.
abbrev pub IsBound : Bus → Course → ℕ → ℕ → Type 0
IsBound bus c k a = (c.up k < a) ⊎ ((j : ℕ) × (j < bus.senders) × (c.up j < c.up k))

-- Its timers lie within their bounds, and so do the lengths of transmissions, told for each sender and moment; and whatever is sent is
-- heard as it may be.
pub record IsNature (bus : Bus) (c : Course) (lasts : ℕ → ℕ → ℕ) : Type 0 where
  pub tg_low : (k a : ℕ) → k < bus.senders → IsBound bus c k a → bus.tg_short k ≤ c.tg k a
  pub tg_high : (k a : ℕ) → k < bus.senders → c.tg k a ≤ bus.tg_long k
  pub sg_low : (k a : ℕ) → k < bus.senders → IsBound bus c k a → bus.sg_short k ≤ c.sg k a
  pub sg_high : (k a : ℕ) → k < bus.senders → c.sg k a ≤ bus.sg_long k
  pub ti : (k a : ℕ) → k < bus.senders → (bus.ti_short k ≤ c.ti k a) × (c.ti k a ≤ bus.ti_long k)
  pub lengths : (k t : ℕ) → k < bus.senders → (0 < lasts k t) × (bus.shortest k ≤ lasts k t) × (lasts k t ≤ bus.longest k)
  pub own : (x : Entry) → 0 < x.length → Hears c.hears 0 bus.drop x x.sender
  pub others : (x : Entry) (n : ℕ) → 0 < x.length → Hears c.hears bus.delay bus.drop x n

-- Then some list of transmissions, each of the length told, makes it a course.
abbrev pub CoursesExist : Type 0
CoursesExist =
    (bus : Bus) (c : Course) (lasts : ℕ → ℕ → ℕ) → IsNature bus c lasts
    → (list : List Entry) × IsCourse bus (with_list c list) × ((x : Entry) → In x list → x.length ≡ lasts x.sender x.moment)

-- And no second: two courses that agree in all but their transmissions, which last as long as told, have the same transmissions.
abbrev pub OneCourse : Type 0
OneCourse =
    (bus : Bus) (c : Course) (lasts : ℕ → ℕ → ℕ) (list other : List Entry) → IsCourse bus (with_list c list)
    → IsCourse bus (with_list c other)
    → ((x : Entry) → In x list → x.length ≡ lasts x.sender x.moment)
    → ((x : Entry) → In x other → x.length ≡ lasts x.sender x.moment)
    → (x : Entry) → In x list ↔ In x other
