-- That the senders of a bus within bounds keep their bounds.
use Rattle.std.specs.Prelude.{ℕ, ◌<◌}
use Rattle.bus_clocks.specs.Buses.{Bus}
use Rattle.bus_clocks.specs.Courses.{Course, IsCourse}
use Rattle.bus_clocks.specs.Windows.{IsAdmissible}
use Rattle.bus_recording.specs.Seen.{Bounds}
use Rattle.bus_recording.specs.Keeping.{KeepsBounds}

-- The bounds of the timers of sender k on a bus.
abbrev pub bounds_of : Bus → ℕ → Bounds
bounds_of bus k = record {
  short = record { ti = bus.ti_short k; sg = bus.sg_short k; tg = bus.tg_short k };
  long = record { ti = bus.ti_long k; sg = bus.sg_long k; tg = bus.tg_long k };
}

-- In every course, in both modes, each sender keeps its bounds: whatever state its timers were in at first, whenever it first was due, and
-- whatever noise there is.
abbrev pub CoursesKeepBounds : Type 0
CoursesKeepBounds =
    (bus : Bus) (c : Course) (k from : ℕ) → IsCourse bus c → k < bus.senders → 0 < bus.sg_long k → KeepsBounds c (bounds_of bus k) k from

-- So does each in all that is admissible, where timers are whole from the power-up on.
abbrev pub AdmissibleKeepsBounds : Type 0
AdmissibleKeepsBounds =
    (bus : Bus) (c : Course) (k from : ℕ) → IsAdmissible bus c → k < bus.senders → 0 < bus.sg_short k → 0 < bus.sg_long k
    → KeepsBounds c (bounds_of bus k) k from
