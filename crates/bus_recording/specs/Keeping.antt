-- What it is that one terminal keeps its bounds, whatever the others on the bus do. It is told by what that terminal hears and sends alone:
-- of what happens, here no more than the list of transmissions, the hearing and the noise are looked at.
use Rattle.std.specs.Prelude.{◌≡◌, ℕ, ◌+◌, ◌-◌, ◌<◌, ◌≤◌, true, List}
use Rattle.bus_clocks.specs.Entries.{Entry, In}
use Rattle.bus_clocks.specs.Courses.{Course, IsQuiet}
use Rattle.bus_recording.specs.Seen.{Bounds, Timers}

-- At moment t terminal k has heard nothing for n ticks.
abbrev pub HasBeenQuiet : Course → ℕ → ℕ → ℕ → Type 0
HasBeenQuiet c k n t = (n ≤ t) × IsQuiet c k (t - n) t

-- At moment t the three timers of terminal k, whose last start is x, are over where they take this long: its interval has passed, behind x
-- its synchronization gap elapsed at some moment, and behind that its terminal gap.
pub record AreOver (c : Course) (k : ℕ) (timers : Timers) (x : Entry) (t : ℕ) : Type 0 where
  pub interval : x.moment + timers.ti ≤ t
  pub elapsed : ℕ
  pub behind : x.moment + timers.sg ≤ elapsed
  pub synchronized : HasBeenQuiet c k timers.sg elapsed
  pub room : elapsed + timers.tg ≤ t
  pub gap : HasBeenQuiet c k timers.tg t

-- Two transmissions of terminal k, z the next behind x.
pub record AreInRow (list : List Entry) (k : ℕ) (x z : Entry) : Type 0 where
  pub there : In x list
  pub here : In z list
  pub mine : x.sender ≡ k
  pub own : z.sender ≡ k
  pub behind : x.moment < z.moment
  pub next : (y : Entry) → In y list → y.sender ≡ k → y.moment < z.moment → y.moment ≤ x.moment

-- Terminal k keeps its bounds from moment `from` on. Nothing is asked of its first start there, but a terminal gap where it had heard a
-- transmission before; nor of any other terminal; nor that it starts again, since it may have nothing to send.
--   gap     at a start before which it had heard a transmission it has heard nothing for its shortest terminal gap
--   early   behind its last start it starts only where its timers are over by their short lengths
--   late    and no later than where they are over by their long lengths.
pub record KeepsBounds (c : Course) (bounds : Bounds) (k from : ℕ) : Type 0 where
  pub gap : (z x : Entry) (t : ℕ) → In z c.list → z.sender ≡ k → from ≤ z.moment → In x c.list → c.hears x k t ≡ true → t < z.moment
      → HasBeenQuiet c k bounds.short.tg z.moment
  pub early : (x z : Entry) → AreInRow c.list k x z → from ≤ x.moment → AreOver c k bounds.short x z.moment
  pub late : (x z : Entry) (t : ℕ) → AreInRow c.list k x z → from ≤ x.moment → AreOver c k bounds.long x t → z.moment ≤ t
