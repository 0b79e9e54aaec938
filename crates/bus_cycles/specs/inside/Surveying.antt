-- How far a survey has come.
use Rattle.std.specs.Prelude.{◌≡◌, ℕ, ◌+◌, ◌≤◌, List, fold, map, Option}
use Rattle.bus_shapes.specs.declared.sent.Sent.{Sent}
use Rattle.bus_cycles.specs.Rows.{Cycle, Extent, Row, extent_of, rows_from}
use Rattle.bus_cycles.specs.Cuts.{Seen}
use Rattle.bus_cycles.specs.Surveys.{Survey, with_row}
use Rattle.bus_pen.specs.Scales.{scale_bound}

-- A survey with the rows that are left.
abbrev pub rest_of : Cycle → Seen → Option ℕ → Survey → List Row → Survey
rest_of cycle seen breach survey rows = fold (with_row cycle seen breach) survey (map extent_of rows)

-- The rows before this one are told of, and it so far; with those behind it the whole survey comes of it.
pub record Surveys (seen : Seen) (breach : Option ℕ) (cycle : Cycle) (all survey : Survey) (extent : Extent) (left : List Sent)
    : Type 0 where
  pub row : Row
  pub extent_is : extent ≡ extent_of row
  pub whole_is : rest_of cycle seen breach survey (rows_from cycle row left) ≡ all
  pub some : cycle.ti ≤ survey.longest
  pub low : survey.longest ≤ scale_bound
  pub ends : extent.end + cycle.origin_offset ≤ scale_bound
  pub count : survey.count ≡ extent.place
  pub whole : survey.whole ≤ survey.count
