-- How much a periodic table bears: how far each bound, alone, may be raised while the level is no lower.
use Rattle.std.specs.Prelude.{ℕ, Bool, true, false}
use Rattle.bus_table.specs.Tables.{Table}
use Rattle.bus_bounds.specs.Bounds.{Bounds}
use Rattle.bus_margins.specs.declared.part.Part.{Part}
use Rattle.bus_margins.specs.Bearing.{with_part}
use Rattle.bus_margins_periodic.specs.declared.level.Level.{Level}
use Rattle.bus_margins_periodic.specs.declared.level.Level.TheVariants.{Turns, Leads, Neither}
use Rattle.bus_margins_periodic.specs.Margins.{level_of}

-- Whether a level is as high as this one.
abbrev pub is_level : Level → Level → Bool
is_level Turns Turns = true
is_level Turns Leads = false
is_level Turns Neither = false
is_level Leads Turns = true
is_level Leads Leads = true
is_level Leads Neither = false
is_level Neither level = true

-- Whether the table has such a level with another value of one of the bounds.
abbrev pub keeps : Bounds → Table → Level → Part → ℕ → Bool
keeps bounds table level part n = is_level level (level_of (with_part bounds part n) table)
