-- Short and long timers alone don't settle.
use Rattle.std.specs.Prelude.{ℕ, ◌+◌, ◌<◌, ◌≤◌}
use Rattle.bus_clocks.specs.Buses.{Bus}
use Rattle.bus_clocks.specs.Courses.{Course, IsLeftAlone}
use Rattle.bus_clocks.specs.Windows.{IsAdmissible}
use Rattle.bus_clocks.specs.Room.{LeavesRoom, StartsItself}
use Rattle.bus_clocks.specs.Rounds.{most_spoken}
use Rattle.bus_clocks.specs.Settling.{HasSettled}

-- That doesn't settle: some bus has room and starts itself, and what is admissible on it doesn't come into order in time, though the
-- horizon lies behind that.
pub record Unsettled : Type 0 where
  pub bus : Bus
  pub c : Course
  pub up : ℕ
  pub sg : ℕ
  pub has_room : LeavesRoom bus
  pub starts : StartsItself bus
  pub happens : IsAdmissible bus c
  pub alone : IsLeftAlone bus c up
  pub greatest : (k : ℕ) → k < bus.senders → bus.sg_long k ≤ sg
  pub room : up + sg + most_spoken bus + sg ≤ c.horizon
  pub never : (origin : ℕ) → origin + bus.delay ≤ up + sg + most_spoken bus → HasSettled bus c up origin → ⊥
