-- A simple form of room for turns.
use Rattle.std.specs.Prelude.{ℕ, ◌+◌, ◌-◌, ◌*◌, ◌<◌, ◌≤◌}
use Rattle.bus_clocks.specs.Buses.{Bus, sum_below}
use Rattle.bus_drift.specs.Pace.{spread}
use Rattle.bus_drift.specs.Room.{NoneOvertaken}

-- By so many ticks the lengths of a sender's transmissions vary.
abbrev pub varies : Bus → ℕ → ℕ
varies bus k = bus.longest k - bus.shortest k

-- Clocks and lengths vary little: the differences of clocks over one transmit interval, the delay, the variations of all lengths, and for
-- each step the delay and the variation of terminal gaps, are together less than the least transmission and the least terminal gap.
pub record VariesLittle (bus : Bus) (ti_least ti_most least gap wait : ℕ) : Type 0 where
  pub ti_low : (k : ℕ) → k < bus.senders → ti_least ≤ bus.ti_short k
  pub ti_high : (k : ℕ) → k < bus.senders → bus.ti_long k ≤ ti_most
  pub long : (k : ℕ) → k < bus.senders → least ≤ bus.shortest k
  pub gaps : (k : ℕ) → k < bus.senders → gap ≤ bus.tg_short k
  pub waits : (k : ℕ) → k < bus.senders → bus.delay + bus.tg_long k ≤ bus.tg_short k + wait
  pub little : ti_most + bus.delay + sum_below (varies bus) bus.senders + (bus.senders - 1) * wait < ti_least + least + gap

-- Then nobody is overtaken.
abbrev pub LittleIsEnough : Type 0
LittleIsEnough = (bus : Bus) (ti_least ti_most least gap wait : ℕ) → VariesLittle bus ti_least ti_most least gap wait → NoneOvertaken bus

-- And rounds spread by no more than all these variations together, where in each step the delay and the variation of the terminal gap are
-- at most `wait`.
abbrev pub SpreadIsLittle : Type 0
SpreadIsLittle =
    (bus : Bus) (wait n : ℕ) → 0 < bus.senders
    → ((k : ℕ) → k < bus.senders → bus.delay + bus.tg_long k ≤ bus.tg_short k + wait)
    → spread bus n ≤ sum_below (varies bus) bus.senders + (bus.senders - 1) * wait
