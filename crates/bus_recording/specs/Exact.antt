-- Where all clocks are exact and nothing is delayed: a start has no finding exactly where it is the lawful one.
use Rattle.std.specs.Prelude.{◌≡◌, ℕ, ◌-◌, ◌<◌, ◌≤◌, ◌↔◌, false, List, Some}
use Rattle.bus_timers.specs.MayStart.{MayStart as Allows}
use Rattle.bus_clocks.specs.Entries.{Entry, In, end_of}
use Rattle.bus_clocks.specs.Courses.{Course}
use Rattle.bus_clocks.specs.Hearing.{Hears}
use Rattle.bus_clocks.specs.Windows.{past, timing}
use Rattle.bus_recording.specs.Seen.{Bounds, Seen, Timers}
use Rattle.bus_recording.specs.Findings.{HasNoFinding}
use Rattle.bus_recording.specs.Keeping.{AreInRow, AreOver}
use Rattle.bus_recording.specs.Monitors.{IsFrom, monitor_of, seen_by}

-- Terminal k and the monitor hear each transmission at once, and nothing else; and the terminal's own don't overlap.
pub record IsExact (c : Course) (k drop : ℕ) (recording : List Seen) : Type 0 where
  pub hears : (x : Entry) → In x c.list → Hears c.hears 0 drop x k
  pub still : (t : ℕ) → c.noise k t ≡ false
  pub apart : (x z : Entry) → In x c.list → In z c.list → x.sender ≡ k → z.sender ≡ k → x.moment < z.moment → end_of x ≤ z.moment
  pub once : (x z : Entry) → In x c.list → In z c.list → x.sender ≡ k → z.sender ≡ k → x.moment ≡ z.moment → x ≡ z
  pub recorded : IsFrom (λ x. x.moment) 0 c.list recording

-- Timers that take these lengths exactly.
abbrev pub exactly : Timers → Bounds
exactly timers = record { short = timers; long = timers }

-- Behind its last start x a terminal starts at z without a finding exactly where its timers are over there, and were nowhere before.
abbrev pub CleanStartIsDue : Type 0
CleanStartIsDue =
    (c : Course) (k drop : ℕ) (recording : List Seen) (timers : Timers) (x z : Entry) → IsExact c k drop recording → AreInRow c.list k x z
    → 0 < drop → drop ≤ timers.sg → drop ≤ timers.tg
    → HasNoFinding (exactly timers) (monitor_of 0 drop 0) recording (seen_by (λ y. y.moment) x) (seen_by (λ y. y.moment) z)
    ↔ (AreOver c k timers x z.moment × ((t : ℕ) → t < z.moment → AreOver c k timers x t → ⊥))

-- So, where it was powered up by then, exactly where the rule of `bus_timers` lets it start there, and nowhere before.
abbrev pub CleanStartIsLawful : Type 0
CleanStartIsLawful =
    (c : Course) (k drop : ℕ) (recording : List Seen) (timers : Timers) (x z : Entry) → IsExact c k drop recording → AreInRow c.list k x z
    → c.up k ≤ x.moment → 0 < drop → drop ≤ timers.sg → drop ≤ timers.tg
    → HasNoFinding (exactly timers) (monitor_of 0 drop 0) recording (seen_by (λ y. y.moment) x) (seen_by (λ y. y.moment) z)
    ↔ (Allows (timing timers.ti timers.sg timers.tg) (past c k z.moment) (Some (x.moment - c.up k))
    × ((t : ℕ) → x.moment < t → t < z.moment → Allows (timing timers.ti timers.sg timers.tg) (past c k t) (Some (x.moment - c.up k)) → ⊥))
