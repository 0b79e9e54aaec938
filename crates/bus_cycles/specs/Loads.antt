-- The load of a row: for how many of its bit times there is carrier on the bus, as a share of all of them. What several terminals send at
-- once counts once, and the quiet between two wordstrings of a message doesn't count.
use Rattle.std.specs.Prelude.{ℕ, ◌+◌, ◌-◌, max, List}
use Rattle.std.specs.List.{flat_map}
use Rattle.bus_strings.specs.Messages.{Entry}
use Rattle.bus_load.specs.Loads.{carrier_bits}
use Rattle.bus_table.specs.declared.mode.Mode.{Mode}
use Rattle.bus_table.specs.declared.mode.Mode.TheVariants.{Aperiodic, Periodic}
use Rattle.bus_pen.specs.declared.class.Class.TheVariants.{Detail}
use Rattle.bus_pen.specs.Numbers.{load_words}
use Rattle.bus_pen.specs.Shapes.{words_text}
use Rattle.bus_cycles.specs.declared.measures.TheConstants.{LOAD_RIGHT as load_right}
use Rattle.bus_cycles.specs.Pages.{Page}
use Rattle.bus_cycles.specs.Rows.{Cycle, Extent, Row, extent_of}
use Rattle.bus_cycles.specs.RowTexts.{line_of, where_drawn}
use Rattle.bus_cycles.specs.Surveys.{last_end_of}

-- How many bit times a row has at least: in periodic mode those of its interval, else one.
abbrev pub least_in : Mode → Cycle → ℕ
least_in Periodic cycle = cycle.ti
least_in Aperiodic cycle = 1

-- How many bit times a row has, from its beginning on.
abbrev pub whole_of : Cycle → Extent → ℕ
whole_of cycle row = max (least_in cycle.mode cycle) (last_end_of cycle.origin_offset row)

-- For how many of them a list has carrier. Those before the settled start have none.
abbrev pub busy_of : Cycle → List Entry → Extent → ℕ
busy_of cycle list row = carrier_bits list (row.begin - cycle.origin_offset) (row.begin + whole_of cycle row - cycle.origin_offset)

-- The share of its bit times that are so many, in words, at the right end of a row.
abbrev pub share_words : Page → Extent → ℕ → List ℕ
share_words page row busy = words_text Detail load_right (line_of page row.place) (load_words busy (whole_of page.cycle row))

-- The load of a row of a list, given where the row is, where it is drawn.
abbrev pub load_at : Page → List Entry → Extent → List ℕ
load_at page list row = where_drawn row.place (share_words page row (busy_of page.cycle list row))

-- The load of a row of a list.
abbrev pub load_text : Page → List Entry → Row → List ℕ
load_text page list row = load_at page list (extent_of row)

-- The loads of rows.
abbrev pub loads_text : Page → List Entry → List Row → List ℕ
loads_text page list rows = flat_map (load_text page list) rows
