-- Looks at who is silent.
use Rattle.std.specs.Prelude.{◌≡◌, ℕ, ◌-◌, ◌*◌, ◌^◌, ◌<◌, ◌≤◌}
use Rattle.bus_table.specs.Tables.{Table}
use Rattle.bus_findings.specs.Growing.{AreBy}
use Rattle.bus_watch.specs.declared.part.Part.{Part}

-- It may be looked at a bit time who is silent in a part: all of it is told up to there.
pub record CanLook (table : Table) (part : Part) (bit : ℕ) : Type 0 where
  pub of_table : part.older.live.table ≡ table
  pub begun : part.older.base ≤ bit
  pub all : AreBy part.older.live.list (bit - part.older.base)
  pub low : 500 * bit < 2 ^ 64
