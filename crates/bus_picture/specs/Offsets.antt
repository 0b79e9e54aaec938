-- Where a sender should start in periodic mode: at its offset in each transmit interval from the settled start on, as the table says, as
-- often as it held a message.
use Rattle.std.specs.Prelude.{ℕ, ◌+◌, ◌-◌, ◌*◌, ◌/◌, min, List, [], map}
use Rattle.std.specs.List.{flat_map, range_with_len}
use Rattle.bus_pen.specs.declared.area.Area.{Area}
use Rattle.bus_pen.specs.declared.class.Class.TheVariants.{Mark}
use Rattle.bus_pen.specs.declared.scale.Scale.{Scale}
use Rattle.bus_pen.specs.Scales.{place}
use Rattle.bus_pen.specs.Shapes.{box_text}
use Rattle.bus_table.specs.declared.mode.Mode.{Mode}
use Rattle.bus_table.specs.declared.mode.Mode.TheVariants.{Aperiodic, Periodic}
use Rattle.bus_picture.specs.declared.measures.TheConstants.{OFFSET_HEIGHT as offset_height, OFFSET_WIDTH as offset_width}
use Rattle.bus_picture.specs.declared.measures.TheConstants.{TICK_BELOW as tick_below}

-- The start of round k, of a sender with this offset.
abbrev pub offset_moment : ℕ → ℕ → ℕ → ℕ
offset_moment ti at k = at + k * ti

-- How many of these starts lie before a moment: so many intervals are begun from the offset to there.
abbrev pub rounds_before : ℕ → ℕ → ℕ → ℕ
rounds_before ti at t = (t - at + (ti - 1)) / ti

-- How many of them lie in a scale, where the sender held so many messages.
abbrev pub rounds_in : Scale → ℕ → ℕ → ℕ → ℕ
rounds_in scale ti at held = min (rounds_before ti at scale.to) held - rounds_before ti at scale.from

-- Those that lie in a scale, in order.
abbrev pub offset_moments : Scale → ℕ → ℕ → ℕ → List ℕ
offset_moments scale ti at held =
    map (offset_moment ti at) (range_with_len (rounds_before ti at scale.from) (rounds_in scale ti at held))

-- The tick of a moment, above the boxes of a row with this upper edge.
abbrev pub tick_area : Scale → ℕ → ℕ → Area
tick_area scale top t = record { left = place scale t; top = top + tick_below; width = offset_width; height = offset_height }

-- It is drawn so.
abbrev pub tick_text : Scale → ℕ → ℕ → List ℕ
tick_text scale top t = box_text Mark (tick_area scale top t)

-- The ticks of these starts, in a row with this upper edge.
abbrev pub ticks_text : Scale → ℕ → ℕ → ℕ → ℕ → List ℕ
ticks_text scale top ti at held = flat_map (tick_text scale top) (offset_moments scale ti at held)

-- The same where the table is periodic; in aperiodic mode a sender has no offset.
abbrev pub offsets_text : Mode → Scale → ℕ → ℕ → ℕ → ℕ → List ℕ
offsets_text Aperiodic scale top ti at held = []
offsets_text Periodic scale top ti at held = ticks_text scale top ti at held
