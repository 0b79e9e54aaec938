-- The two parts in which a save file has its lanes: that of the terminal that a breach names, and the others.
use Rattle.std.specs.Prelude.{ℕ, Bool, not, List, [], if◌then◌else◌, Option}
use Rattle.bus_table.specs.Tables.{Table}
use Rattle.bus_dump.specs.declared.lane.Lane.{Lane}
use Rattle.bus_dump.specs.SaveFiles.{FirstBreach, is_named, lane_among}

-- Whether a lane stands in the first part, or in the second.
abbrev pub stands : Bool → Option FirstBreach → Lane → Bool
stands first breach lane = if first then is_named breach lane else not (is_named breach lane)

-- A lane in a part: nothing where it stands in the other.
abbrev pub lane_within : Bool → Option FirstBreach → Table → List Lane → Lane → List ℕ
lane_within first breach table lanes lane = if stands first breach lane then lane_among breach table lanes lane else []
