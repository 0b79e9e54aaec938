-- How much a table bears: how far each bound, alone, may be raised while the level is no lower.
use Rattle.std.specs.Prelude.{ℕ, Bool, true, false}
use Rattle.bus_table.specs.Tables.{Table}
use Rattle.bus_bounds.specs.Bounds.{Bounds, most_delay, most_jitter, most_clocks}
use Rattle.bus_margins.specs.declared.part.Borne.{Borne}
use Rattle.bus_margins.specs.declared.part.Part.{Part}
use Rattle.bus_margins.specs.declared.part.Part.TheVariants.{Delay, Jitter, Clocks}
use Rattle.bus_margins.specs.declared.level.Level.{Level}
use Rattle.bus_margins.specs.declared.level.Level.TheVariants.{Any, Common, Neither}
use Rattle.bus_margins.specs.Greatest.{greatest_to, IsGreatest}
use Rattle.bus_margins.specs.Rooms.{level_of}

-- These bounds with another value of one of them.
abbrev pub with_part : Bounds → Part → ℕ → Bounds
with_part bounds Delay n = record bounds { delay = n }
with_part bounds Jitter n = record bounds { jitter = n }
with_part bounds Clocks n = record bounds { clocks = n }

abbrev pub part_of : Bounds → Part → ℕ
part_of bounds Delay = bounds.delay
part_of bounds Jitter = bounds.jitter
part_of bounds Clocks = bounds.clocks

-- How great it may be.
abbrev pub most_part : Part → ℕ
most_part Delay = most_delay
most_part Jitter = most_jitter
most_part Clocks = most_clocks

-- ---- what is borne, where a test tells of each value of one of the bounds whether the level is kept with it

-- The greatest value of each with which it is.
pub record IsBorne (keeps : Part → ℕ → Bool) (borne : Borne) : Type 0 where
  pub delay : IsGreatest (keeps Delay) (most_part Delay) borne.delay
  pub jitter : IsGreatest (keeps Jitter) (most_part Jitter) borne.jitter
  pub clocks : IsGreatest (keeps Clocks) (most_part Clocks) borne.clocks

-- These values, computed.
unfoldable pub greatest_part : (Part → ℕ → Bool) → Part → ℕ
greatest_part keeps part = greatest_to (keeps part) (most_part part)

abbrev pub borne_with : (Part → ℕ → Bool) → Borne
borne_with keeps = record {
  delay = greatest_part keeps Delay;
  jitter = greatest_part keeps Jitter;
  clocks = greatest_part keeps Clocks;
}

-- ---- aperiodic tables

-- Whether a level is as high as this one.
abbrev pub is_level : Level → Level → Bool
is_level Any Any = true
is_level Any Common = false
is_level Any Neither = false
is_level Common Any = true
is_level Common Common = true
is_level Common Neither = false
is_level Neither level = true

-- Whether the table has such a level with another value of one of the bounds.
abbrev pub keeps : Bounds → Table → Level → Part → ℕ → Bool
keeps bounds table level part n = is_level level (level_of (with_part bounds part n) table)
