-- All take turns for ever.
use Rattle.std.specs.Prelude.{◌≡◌, ℕ, ◌+◌, ◌-◌, ◌<◌, ◌≤◌, ◌⊎◌, length}
use Rattle.bus_clocks.specs.Buses.{Bus}
use Rattle.bus_clocks.specs.Entries.{end_of, AreClear}
use Rattle.bus_clocks.specs.Courses.{Course, HasMore, IsCourse}
use Rattle.bus_clocks.specs.Order.{AreEven}
use Rattle.bus_drift.specs.Beginning.{Begins}
use Rattle.bus_drift.specs.Room.{LeavesTurns}
use Rattle.bus_drift.specs.Turns.{who, turn}

-- Moment t is no later than turn n may wait for: in the first round until it is due for the first time, at moment `late n` at the latest;
-- then until its transmit interval elapses, or until it has heard the one before it and its terminal gap has elapsed.
abbrev pub IsDue : Bus → Course → (ℕ → ℕ) → ℕ → ℕ → Type 0
IsDue bus c late n t =
    (n < bus.senders → t ≤ late n)
    × (bus.senders ≤ n
    → (t ≤ (turn c (n - bus.senders)).moment + bus.ti_long (who bus n))
    ⊎ (t ≤ end_of (turn c (n - 1)) + bus.delay + bus.tg_long (who bus n)))

-- The n-th transmission is turn n:
--   sender    it is of the sender whose turn that is
--   gap       it begins its terminal gap or more behind the end of the one before it
--   held      it waits for nothing but its transmit interval or the one before it, and never for its synchronization gap
--   first     in the first round it begins no earlier than it is due, at moment `soon n` at the earliest
--   interval  and then no earlier than its transmit interval behind its sender's last turn.
pub record InTurn (bus : Bus) (c : Course) (soon late : ℕ → ℕ) (n : ℕ) : Type 0 where
  pub sender : (turn c n).sender ≡ who bus n
  pub gap : 0 < n → end_of (turn c (n - 1)) + bus.tg_short (who bus n) ≤ (turn c n).moment
  pub held : IsDue bus c late n (turn c n).moment
  pub first : n < bus.senders → soon n ≤ (turn c n).moment
  pub interval : bus.senders ≤ n → (turn c (n - bus.senders)).moment + bus.ti_short (who bus n) ≤ (turn c n).moment

-- All take turns, where first dues are told as moments:
--   turns   each transmission is the turn of its place in the list
--   whole   none is missing: where anybody has a message left, the horizon comes before the next turn is due
--   clear   and no terminal hears two of them at once.
pub record TakeTurns (bus : Bus) (c : Course) (soon late : ℕ → ℕ) : Type 0 where
  pub turns : (n : ℕ) → n < length c.list → InTurn bus c soon late n
  pub whole : (k : ℕ) → k < bus.senders → HasMore c k → IsDue bus c late (length c.list) c.horizon
  pub clear : AreClear bus.delay c.list

-- Where the bounds leave room for turns, all take turns for ever: whatever the lengths of messages, whatever the timers take within their
-- bounds, and whatever is heard. All have as many messages, or as many as they like.
abbrev pub TurnsGoOn : Type 0
TurnsGoOn =
    (bus : Bus) (c : Course) (start : ℕ) (soon late : ℕ → ℕ) → LeavesTurns bus soon late → IsCourse bus c → AreEven bus c
    → Begins bus c start soon late → TakeTurns bus c (λ k. start + soon k) (λ k. start + late k)
