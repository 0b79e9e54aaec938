-- The bounds of a page and of what is told of a transmission, on which the code relies for its numbers. No public clause cites it.
use Rattle.std.specs.Prelude.{◌<◌, ◌≤◌, ◌+◌, ◌^◌}
use Rattle.bus_pen.specs.Scales.{IsScale}
use Rattle.bus_shapes.specs.declared.sent.Sent.{Sent}
use Rattle.bus_cycles.specs.declared.measures.TheConstants.{PLAIN_ROW as plain_row, PLOT_LEFT as plot_left, SPLIT_ROW as split_row}
use Rattle.bus_cycles.specs.Surveys.{most_rows}
use Rattle.bus_cycles.specs.declared.cut.Seen.{Seen}
use Rattle.bus_cycles.specs.declared.page.Page.{Page}

-- The bounds of what is seen.
pub record IsSeen (seen : Seen) : Type 0 where
  pub from : seen.from ≤ 2 ^ 41
  pub to : seen.to ≤ 2 ^ 41

-- The bounds of a page.
pub record IsPage (page : Page) : Type 0 where
  pub scale : IsScale page.scale
  pub left : plot_left ≤ page.scale.left
  pub some : 0 < page.cycle.ti
  pub few : page.rows ≤ most_rows
  pub least : plain_row ≤ page.row_height
  pub most : page.row_height ≤ split_row
  pub seen : IsSeen page.seen

-- What holds of each transmission that is told of: it doesn't end before it begins, and its numbers are far below the end of their types.
pub record IsSent (sent : Sent) : Type 0 where
  pub order : sent.moment ≤ sent.end
  pub low : sent.end ≤ 2 ^ 40 + 2 ^ 18
  pub before : sent.before ≤ 2 ^ 40 + 2 ^ 18
