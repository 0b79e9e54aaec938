-- What a monitor records of a bus, and what is known beside it. All times are in ticks, of any length, counted from anywhere.
use Rattle.std.specs.Prelude.{◌≡◌, ℕ, ◌<◌, ◌≤◌, ◌⊎◌, List, [], ◌∷◌}

-- A transmission as it is recorded: when the monitor heard it begin, whose it is, and when it has ended, at the soonest and at the latest
-- (which is one moment, where each message lasts as long as its bits).
pub record Seen : Type 0 where
  pub moment : ℕ
  pub sender : ℕ
  pub soonest : ℕ
  pub latest : ℕ

-- This is one of these transmissions.
abbrev pub IsIn : Seen → List Seen → Type 0
IsIn x [] = ⊥
IsIn x (y ∷ ys) = (x ≡ y) ⊎ IsIn x ys

-- Lengths of the three timers of a terminal: its transmit interval, synchronization gap and terminal gap.
pub record Timers : Type 0 where
  pub ti : ℕ
  pub sg : ℕ
  pub tg : ℕ

-- How long the timers of a terminal are, within bounds: each time that a timer is begun it takes no less than its short and no more than
-- its long length.
pub record Bounds : Type 0 where
  pub short : Timers
  pub long : Timers

-- What is known of where and when a monitor records. The clock of each terminal is thought to be set so that its own starts are those of
-- the recording:
--   reach    a terminal hears another's transmission begin no earlier than it is recorded, and up to so many ticks later
--   rest     and end no earlier, and up to so many ticks later
--   drop     no terminal hears so many quiet ticks in a row within a transmission
--   settled  from this moment on no terminal hears what isn't recorded.
pub record Monitor : Type 0 where
  pub reach : ℕ
  pub rest : ℕ
  pub drop : ℕ
  pub settled : ℕ

-- Of the recorded starts of one terminal, y is the next behind o.
pub record IsNext (recording : List Seen) (o y : Seen) : Type 0 where
  pub there : IsIn o recording
  pub here : IsIn y recording
  pub same : o.sender ≡ y.sender
  pub behind : o.moment < y.moment
  pub next : (z : Seen) → IsIn z recording → z.sender ≡ y.sender → o.moment < z.moment → y.moment ≤ z.moment
