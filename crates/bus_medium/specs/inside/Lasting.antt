-- A stretch of the bus, in which the carrier stays as it is and nobody begins.
use Rattle.std.specs.Prelude.{◌≡◌, ℕ, ◌+◌, ◌≤◌, ◌++◌, Bool, List, replicate, Option}
use Rattle.bus_timers.specs.declared.timing.Timing.{Timing}
use Rattle.bus_timers.specs.declared.cores.Core.{Ghosts}
use Rattle.bus_medium.specs.MessageStretches.{with_passed_many}
use Rattle.bus_medium.specs.Buses.{Seat}

-- The sender was passed n bit times, in one move.
pub record PassedMany {C : Type 0} (core : Ghosts C) (carrier : Bool) (n : ℕ) (x y : Seat C) : Type 0 where
  pub told : (timing : Timing) (past : List Bool) (last : Option ℕ) → core.stands x.terminal.core timing past last
      → core.stands y.terminal.core timing (past ++ replicate n carrier) last
  pub timing : y.timing ≡ x.timing
  pub terminal : y.terminal ≡ with_passed_many x.terminal n y.terminal.core
  pub room : core.room x.terminal.core ≤ core.room y.terminal.core + n
  pub moves : core.moves y.terminal.core ≤ core.moves x.terminal.core + 1
