-- What all rows of a picture go by.
use Rattle.std.specs.Prelude.{ℕ, ◌+◌, ◌*◌, ◌==◌, min, if◌then◌else◌}
use Rattle.bus_table.specs.Tables.{Table}
use Rattle.bus_shapes.specs.declared.counts.Counts.{Counts}
use Rattle.bus_pen.specs.declared.scale.Scale.{Scale}
use Rattle.bus_cycles.specs.Cuts.{seen_of}
use Rattle.bus_cycles.specs.Lanes.{lanes_of}
use Rattle.bus_cycles.specs.declared.measures.TheConstants.{PLAIN_ROW as plain_row, PLOT_LEFT as plot_left, PLOT_WIDTH as plot_width}
use Rattle.bus_cycles.specs.declared.measures.TheConstants.{ROWS_TOP as rows_top, SPLIT_ROW as split_row}
use Rattle.bus_cycles.specs.Rows.{cycle_of}
use Rattle.bus_cycles.specs.Surveys.{Survey, most_rows}
pub use Rattle.bus_cycles.specs.declared.page.Page.{Page}

-- The moments behind the beginning of a row, as far as the longest that is drawn has some, and as the breach needs some.
abbrev pub scale_of : Survey → Scale
scale_of survey = record { from = 0; to = survey.longest; left = plot_left; width = plot_width }

-- The height of a row, where so many garbled transmissions begin in the window.
abbrev pub row_height_of : ℕ → ℕ
row_height_of garbled = if garbled == 0 then plain_row else split_row

-- What the rows of a picture go by, given what is told of them and what is shown.
abbrev pub page_of : Table → Survey → Counts → Page
page_of table survey counts = record {
  scale = scale_of survey;
  cycle = cycle_of table;
  rows = min survey.count most_rows;
  row_height = row_height_of counts.garbled;
  seen = seen_of counts;
  lanes = lanes_of table;
}

-- The upper edge of a row.
abbrev pub top_of : Page → ℕ → ℕ
top_of page row = rows_top + page.row_height * row

-- The lower edge of the rows.
abbrev pub bottom_of : Page → ℕ
bottom_of page = top_of page page.rows
