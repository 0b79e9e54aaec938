-- A turn that is late, one that it holds back, and one that is due behind it, with how long it takes from one to another.
use Rattle.std.specs.Prelude.{◌≡◌, ℕ, ◌+◌, ◌-◌, ◌≤◌, ◌^◌, ◌==◌, Bool, ◌||◌, nat_lt}
use Rattle.bus_clocks.specs.Buses.{Bus}
use Rattle.bus_drift.specs.Turns.{who, slowest, fastest}
use Rattle.bus_bounds.specs.Bounds.{Bounds}
use Rattle.bus_table.specs.Tables.{Table}
use Rattle.bus_margins.specs.declared.part.Part.TheVariants.{Clocks}
use Rattle.bus_margins.specs.Bearing.{with_part}
use Rattle.bus_margins.specs.Buses.{bus_of}
use Rattle.bus_margins_periodic.specs.declared.order.Case.{Case}
use Rattle.bus_margins_periodic.specs.Least.{holds}
use Rattle.bus_margins_periodic.specs.Rooms.{is_close, clock_room, order_room}

pub record IsCase (bus : Bus) (case : Case) : Type 0 where
  pub slow : case.slow ≡ slowest bus case.late case.held
  pub fast : case.fast ≡ fastest bus case.late case.due
  pub slow_bound : case.slow ≤ 2 ^ 42
  pub fast_bound : case.fast ≤ 2 ^ 42
  pub order : case.late ≤ case.held
  pub early : case.late ≤ 2 ^ 10
  pub held_early : case.held ≤ 2 ^ 10
  pub due_early : case.due ≤ 2 ^ 10

-- How long a round of the turn so far behind turn i may last, where it waits for that one's interval.
abbrev pub round_from : Bus → ℕ → ℕ → ℕ
round_from bus i m = bus.ti_long i + (slowest bus i (i + m) - fastest bus i (i + m))

-- There is a rule for such turns: the late one isn't held back, or the one that is doesn't come first by the gaps alone.
abbrev pub is_ruled : Bus → ℕ → ℕ → ℕ → Bool
is_ruled bus i j k = (i == j) || is_close bus j k

-- And what it needs is there.
abbrev pub is_enough : Bus → ℕ → ℕ → ℕ → Bool
is_enough bus i j k = nat_lt (bus.ti_long (who bus i) + slowest bus i j + bus.delay) (bus.ti_short (who bus k) + fastest bus i k)

-- Order may be kept: the first sender's clock is the slowest, or nobody is overtaken.
abbrev pub may_keep : Bus → Bool
may_keep bus = holds (clock_room bus) || holds (order_room bus)

-- Or it may, if clocks are off by so much.
abbrev pub may_with : Bounds → Table → ℕ → Bool
may_with bounds table clocks = may_keep (bus_of (with_part bounds Clocks clocks) table)
