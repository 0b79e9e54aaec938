-- The made table, by computation.
use Rattle.std.specs.Prelude.{Option, None, if◌then◌else◌}
use Rattle.std.specs.Option.{option_map}
use Rattle.bus_bounds.specs.Bounds.{Bounds}
use Rattle.bus_table.specs.Tables.{Table}
use Rattle.bus_margins.specs.Rooms.{lasts}
use Rattle.bus_best.specs.Bests.{Best, best_of}
use Rattle.bus_design.specs.Others.{made_table, speakers_of}

-- The table with these gaps.
abbrev pub table_with : Table → Best → Table
table_with table best = made_table table best.sg best.gaps

-- The made table, if there is one.
abbrev pub design_of : Bounds → Table → Option Table
design_of bounds table = if lasts bounds table then option_map (table_with table) (best_of bounds (speakers_of table)) else None
