-- From round to round all keep pace with the slowest.
use Rattle.std.specs.Prelude.{ℕ, zero, suc, ◌+◌, ◌-◌, ◌*◌, ◌<◌, ◌≤◌, length, max}
use Rattle.bus_clocks.specs.Buses.{Bus}
use Rattle.bus_clocks.specs.Courses.{Course, IsCourse}
use Rattle.bus_clocks.specs.Order.{AreEven}
use Rattle.bus_drift.specs.Beginning.{Begins}
use Rattle.bus_drift.specs.Room.{LeavesTurns}
use Rattle.bus_drift.specs.Turns.{who, slowest, fastest, turn}

-- So many ticks are a round of turn n: no less than its own transmit interval, or that of another turn of the round and all by which the
-- steps from there on can differ.
abbrev pub IsRound : Bus → ℕ → ℕ → Type 0
IsRound bus n most =
    (i : ℕ) → i ≤ n → n < i + bus.senders → bus.ti_long (who bus i) + slowest bus i n ≤ most + fastest bus i n

-- The greatest of the first n values of f, and 0 where there is none.
abbrev pub greatest_below : (ℕ → ℕ) → ℕ → ℕ
greatest_below f zero = 0
greatest_below f (suc n) = max (greatest_below f n) (f n)

-- The longest of them: that of a turn m behind turn i, both within a round, which waits for the interval of turn i and all that varies
-- from there on.
abbrev pub longest_round : Bus → ℕ
longest_round bus =
    greatest_below
    (λ i. greatest_below (λ m. bus.ti_long i + (slowest bus i (i + m) - fastest bus i (i + m))) bus.senders) bus.senders

-- No turn has a longer round.
abbrev pub LongestIsRound : Type 0
LongestIsRound = (bus : Bus) (n : ℕ) → IsRound bus n (longest_round bus)

-- By so much do the steps of a round up to turn n differ: what its messages, delays and terminal gaps can vary.
abbrev pub spread : Bus → ℕ → ℕ
spread bus n = slowest bus (n + 1 - bus.senders) n - fastest bus (n + 1 - bus.senders) n

-- So many rounds behind turn n:
--   own    its sender begins no earlier than as many of its own transmit intervals behind it,
--   all    nor than as many of anybody's less one: so in the long run all keep pace with the slowest;
--   pace   and no later than as many of the slowest, and the spread, which counts but once.
pub record KeepsPace (bus : Bus) (c : Course) (n rounds : ℕ) : Type 0 where
  pub own : (turn c n).moment + rounds * bus.ti_short (who bus n) ≤ (turn c (n + rounds * bus.senders)).moment
  pub all : (k : ℕ) → k < bus.senders → (turn c n).moment + (rounds - 1) * bus.ti_short k ≤ (turn c (n + rounds * bus.senders)).moment
  pub pace : (slow : ℕ) → bus.senders ≤ n + 1 → ((k : ℕ) → k < bus.senders → bus.ti_long k ≤ slow)
      → (turn c (n + rounds * bus.senders)).moment ≤ (turn c n).moment + rounds * slow + spread bus n

-- All keep pace with each other for ever:
--   round   from turn to turn of a sender it takes no more than a round
--   pace    and many rounds take no more than as many of the slowest intervals, but for one spread.
pub record KeepPace (bus : Bus) (c : Course) : Type 0 where
  pub round : (n most : ℕ) → n < length c.list → bus.senders ≤ n → IsRound bus n most
      → (turn c n).moment ≤ (turn c (n - bus.senders)).moment + most
  pub pace : (n rounds : ℕ) → n + rounds * bus.senders < length c.list → KeepsPace bus c n rounds

-- So it is where the bounds leave room for turns.
abbrev pub PaceIsKept : Type 0
PaceIsKept =
    (bus : Bus) (c : Course) (start : ℕ) (soon late : ℕ → ℕ) → LeavesTurns bus soon late → IsCourse bus c → AreEven bus c
    → Begins bus c start soon late → KeepPace bus c
