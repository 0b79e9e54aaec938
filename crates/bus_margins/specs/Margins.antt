-- The margins of an aperiodic table.
use Rattle.bus_table.specs.Tables.{Table}
use Rattle.bus_bounds.specs.Bounds.{Bounds}
use Rattle.bus_margins.specs.declared.level.Margins.{Margins}
use Rattle.bus_margins.specs.Rooms.{rooms_of, level_of, least_apart, most_apart}

abbrev pub margins_of : Bounds → Table → Margins
margins_of bounds table = record {
  level = level_of bounds table;
  least = least_apart bounds table;
  most = most_apart bounds table;
  rooms = rooms_of bounds table;
}
