-- How far the faults of rows have been marked.
use Rattle.std.specs.Prelude.{◌≡◌, ℕ, ◌+◌, ◌++◌, Bool, List, Option, if◌then◌else◌}
use Rattle.std.specs.List.{flat_map, list_any}
use Rattle.bus_outer.specs.Texts.{Adds}
use Rattle.bus_outer.specs.declared.text_buffer.TextBuffer.{TextBuffer}
use Rattle.bus_findings.specs.declared.judgement.Judgement.{Judgement}
use Rattle.bus_shapes.specs.declared.sent.Sent.{Sent}
use Rattle.bus_cycles.specs.Faults.{fault_text, fault_word, faults_of, has_fault}
use Rattle.bus_cycles.specs.Pages.{Page}
use Rattle.bus_cycles.specs.Rows.{Extent, Row, extent_of, is_new, row_at, rows_from}

-- Whether a fault is found in a row, so far.
abbrev pub any_in : List Judgement → Row → Bool
any_in found row = list_any (has_fault found) row.sents

-- The marks of the transmissions of a row, so far.
abbrev pub marks_of : Page → List Judgement → Row → List ℕ
marks_of page found row = flat_map (fault_text page found row.place row.begin) row.sents

-- What the next transmission adds where it begins a row: the word of the row before it comes first.
abbrev pub new_marks : Page → List Judgement → Row → Sent → List ℕ
new_marks page found row sent =
    fault_word page row.place (any_in found row)
    ++ fault_text page found (row.place + 1) (row_at page.cycle (row.place + 1) sent).begin sent

-- What it adds where it goes on with its row.
abbrev pub more_marks : Page → List Judgement → Row → Sent → List ℕ
more_marks page found row sent = fault_text page found row.place row.begin sent

-- What the next transmission adds.
abbrev pub next_marks : Page → List Judgement → Row → Sent → List ℕ
next_marks page found row sent = if is_new page.cycle row.begin sent then new_marks page found row sent else more_marks page found row sent

-- What is kept of a row: where it is, and whether a fault is found in it.
pub record Holds (found : List Judgement) (row : Row) (extent : Extent) (any : Bool) : Type 0 where
  pub extent_is : extent ≡ extent_of row
  pub any_is : any ≡ any_in found row

-- The rows before this one are marked, and the transmissions so far of this one; the others are still to come.
pub record Marks {K : Type 0} (held : K → Option (List ℕ)) (faults : K → ℕ) (k k' : K) (old new : TextBuffer) (page : Page)
    (found : List Judgement) (whole : List ℕ) (extent : Extent) (any : Bool) (left : List Sent) : Type 0 where
  pub row : Row
  pub holds : Holds found row extent any
  pub front : List ℕ
  pub adds : Adds held faults k k' old new (front ++ marks_of page found row)
  pub whole_is : front ++ faults_of page found (rows_from page.cycle row left) ≡ whole
