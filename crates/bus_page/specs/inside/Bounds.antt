-- What holds of what is drawn. No public clause cites it.
use Rattle.std.specs.Prelude.{◌<◌, ◌≤◌, ◌^◌}
use Rattle.bus_page.specs.Cycles.{Times}

-- The times of an accepted table: there is a cycle, and it is short.
pub record AreTimes (times : Times) : Type 0 where
  pub some : 0 < times.most
  pub short : times.most ≤ 2 ^ 40
