-- How far the begins of rows have been told.
use Rattle.std.specs.Prelude.{◌≡◌, ℕ, ◌++◌, List, [], ◌∷◌, if◌then◌else◌}
use Rattle.bus_shapes.specs.declared.sent.Sent.{Sent}
use Rattle.bus_cycles.specs.Dues.{begins_of}
use Rattle.bus_cycles.specs.Rows.{Cycle, Extent, Row, rows_from}
use Rattle.bus_cycles.specs.Surveys.{is_drawn}

-- The begin of a row, where it is drawn.
abbrev pub begin_where : ℕ → ℕ → List ℕ
begin_where row begin = if is_drawn row then begin ∷ [] else []

-- The begins of the rows before this one are told.
pub record Begins (cycle : Cycle) (whole begins : List ℕ) (extent : Extent) (left : List Sent) : Type 0 where
  pub row : Row
  pub place : extent.place ≡ row.place
  pub begin : extent.begin ≡ row.begin
  pub whole_is : begins ++ begins_of (rows_from cycle row left) ≡ whole
