-- What a table bears, by its mode.
use Rattle.std.proofs.Common.{◌≡◌, ℕ, ap}
use Rattle.bus_table.specs.declared.mode.Mode.TheVariants.{Aperiodic, Periodic}
use Rattle.bus_table.specs.Tables.{Table}
use Rattle.bus_schedule.specs.Slack.{gaps_bear}
use Rattle.bus_reach.specs.Bearing.{bears, bears_in}
use Rattle.bus_reach.specs.Tolerance.{lengths_bear}

pub in_aperiodic : (table : Table) (d : ℕ) → table.mode ≡ Aperiodic → bears table d ≡ lengths_bear table d
in_aperiodic table d mode = ap (λ m. bears_in m table d) mode

pub in_periodic : (table : Table) (d : ℕ) → table.mode ≡ Periodic → bears table d ≡ gaps_bear table d
in_periodic table d mode = ap (λ m. bears_in m table d) mode
