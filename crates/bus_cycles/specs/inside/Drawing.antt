-- How far a picture has come: what is kept of the row that is drawn, and what that stands for.
use Rattle.std.specs.Prelude.{◌≡◌, ℕ, ◌+◌, ◌<◌, Bool, nat_le, List, [], ◌++◌, length, slice_index_or, Option, if◌then◌else◌}
use Rattle.bus_outer.specs.Texts.{Adds}
use Rattle.bus_outer.specs.declared.text_buffer.TextBuffer.{TextBuffer}
use Rattle.bus_shapes.specs.declared.sent.Sent.{Sent}
use Rattle.bus_cycles.specs.Rows.{Extent, Row, extent_of, is_new, row_at, rows_from, with_sent}
use Rattle.bus_cycles.specs.Measures.{shades}
use Rattle.bus_cycles.specs.Pages.{Page}
use Rattle.bus_cycles.specs.RowTexts.{Shaded, all_shaded, box_behind, boxes, ending_text, is_reached, walk_text}

-- For each shade is kept how far these transmissions reach.
pub record Reaches (page : Page) (begin : ℕ) (earlier : List Shaded) (edges : List ℕ) : Type 0 where
  pub long : length edges ≡ shades
  pub edges_are : (tone right : ℕ) → tone < shades → 0 < right
      → nat_le right (slice_index_or edges tone 0) ≡ is_reached page begin earlier tone right

-- What is kept of a row.
pub record Keeps (page : Page) (row : Row) (extent : Extent) (edges : List ℕ) : Type 0 where
  pub extent_is : extent ≡ extent_of row
  pub reaches : Reaches page row.begin (all_shaded page row.begin [] row.sents) edges

-- A row with the next transmission, or the row that begins with that.
abbrev pub next_row : Page → Row → Sent → Row
next_row page row sent = if is_new page.cycle row.begin sent then row_at page.cycle (row.place + 1) sent else with_sent row sent

-- What the next transmission adds in a walk where it begins a row: the words of the row before it come first.
abbrev pub new_text : Page → Bool → Row → Sent → List ℕ
new_text page garbled row sent =
    ending_text page garbled (extent_of row)
    ++ box_behind page garbled (row.place + 1) (row_at page.cycle (row.place + 1) sent).begin [] sent

-- What it adds where it goes on with its row.
abbrev pub more_text : Page → Bool → Row → Sent → List ℕ
more_text page garbled row sent = box_behind page garbled row.place row.begin (all_shaded page row.begin [] row.sents) sent

-- What the next transmission adds in a walk.
abbrev pub next_text : Page → Bool → Row → Sent → List ℕ
next_text page garbled row sent =
    if is_new page.cycle row.begin sent then new_text page garbled row sent else more_text page garbled row sent

-- These rows are drawn in a walk, and the transmissions so far of the one behind them; the others are still to come.
pub record Draws {K : Type 0} (held : K → Option (List ℕ)) (faults : K → ℕ) (k k' : K) (old new : TextBuffer) (page : Page)
    (garbled : Bool) (whole : List ℕ) (extent : Extent) (edges : List ℕ) (left : List Sent) : Type 0 where
  pub row : Row
  pub keeps : Keeps page row extent edges
  pub front : List ℕ
  pub adds : Adds held faults k k' old new (front ++ boxes page garbled row.place row.begin [] row.sents)
  pub whole_is : front ++ walk_text page garbled (rows_from page.cycle row left) ≡ whole
