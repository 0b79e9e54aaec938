-- How far the loads of rows have been written.
use Rattle.std.specs.Prelude.{◌≡◌, ℕ, ◌++◌, List, [], Option, if◌then◌else◌}
use Rattle.bus_outer.specs.Texts.{Adds}
use Rattle.bus_outer.specs.declared.text_buffer.TextBuffer.{TextBuffer}
use Rattle.bus_strings.specs.Messages.{Entry}
use Rattle.bus_shapes.specs.declared.sent.Sent.{Sent}
use Rattle.bus_cycles.specs.Loads.{load_text, loads_text}
use Rattle.bus_cycles.specs.Pages.{Page}
use Rattle.bus_cycles.specs.Rows.{Extent, Row, extent_of, is_new, rows_from}

-- What the next transmission adds: where it begins a row, the load of the row before it.
abbrev pub next_load : Page → List Entry → Row → Sent → List ℕ
next_load page list row sent = if is_new page.cycle row.begin sent then load_text page list row else []

-- The loads of the rows before this one are written.
pub record Loads {K : Type 0} (held : K → Option (List ℕ)) (faults : K → ℕ) (k k' : K) (old new : TextBuffer) (page : Page)
    (list : List Entry) (whole : List ℕ) (extent : Extent) (left : List Sent) : Type 0 where
  pub row : Row
  pub extent_is : extent ≡ extent_of row
  pub front : List ℕ
  pub adds : Adds held faults k k' old new front
  pub whole_is : front ++ loads_text page list (rows_from page.cycle row left) ≡ whole
