-- What the counters of a counting core stand for.
use Rattle.std.specs.Prelude.{◌≡◌, ℕ, ◌+◌, ◌-◌, min, Bool, List, length, Option}
use Rattle.bus_timers.specs.declared.counter.CounterCore.{CounterCore}
use Rattle.bus_timers.specs.declared.timing.Timing.{Timing}
use Rattle.bus_timers.specs.Timings.{IsSound, due_place}
use Rattle.bus_timers.specs.GapPlace.{GapFrom}

-- Wait bit times are left of the transmit interval, and quiet and gap are counted of the two gaps.
pub record CountersStand (timing : Timing) (wait quiet gap : ℕ) (past : List Bool) (last : Option ℕ) : Type 0 where
  pub sound : IsSound timing
  pub place : ℕ
  pub from : GapFrom timing.sg past last place
  pub interval : wait ≡ due_place timing last - length past
  pub synchronization : quiet + (place - length past) ≡ timing.sg
  pub terminal : gap ≡ min timing.tg (length past - place)

-- A counting core keeps its timing, and its counters stand for the past and the last own start.
abbrev pub CoreStands : CounterCore → Timing → List Bool → Option ℕ → Type 0
CoreStands core timing past last = (core.timing ≡ timing) × CountersStand core.timing core.wait core.quiet core.gap past last

-- The calls of `pass` since it was settled.
abbrev pub core_moves : CounterCore → ℕ
core_moves core = core.moves
