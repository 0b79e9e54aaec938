-- What the legend lists: each kind of box or line where one is drawn.
use Rattle.std.specs.Prelude.{ℕ, Bool, false, nat_lt, List, Option, Some, None}
use Rattle.std.specs.List.{list_any}
use Rattle.bus_trace.specs.declared.hold.Hold.{Hold}
use Rattle.bus_table.specs.Tables.{Sender, Table}
use Rattle.bus_shapes.specs.declared.told.Told.{Told}
use Rattle.bus_shapes.specs.declared.told.Told.TheVariants.{Audit, OnCable, Findings}
use Rattle.bus_cycles.specs.Dues.{rows_of_due}
use Rattle.bus_cycles.specs.Faults.{any_marked}
use Rattle.bus_cycles.specs.Pages.{Page}
use Rattle.bus_cycles.specs.Rows.{Extent, Row}
use Rattle.bus_cycles.specs.Surveys.{Survey, is_drawn}
pub use Rattle.bus_cycles.specs.declared.listing.Listed.{Listed}

-- Whether a breach is drawn: a row is marked, and drawn.
abbrev pub is_breach_drawn : Option Extent → Bool
is_breach_drawn None = false
is_breach_drawn (Some row) = is_drawn row.place

-- Whether a fault is marked in these rows: findings may tell of one.
abbrev pub is_fault_drawn : Told → List Row → Bool
is_fault_drawn (Audit answer) rows = false
is_fault_drawn (OnCable garbled) rows = false
is_fault_drawn (Findings bounds judgements garbled) rows = any_marked judgements.items rows

-- Whether a sender has a line, for the rows that begin at these moments.
abbrev pub has_line : Page → List Hold → List ℕ → Sender → Bool
has_line page holds begins sender = nat_lt 0 (rows_of_due page holds begins sender)

-- Whether a sender of a table has one.
abbrev pub is_due_drawn : Page → Table → List Hold → List ℕ → Bool
is_due_drawn page table holds begins = list_any (has_line page holds begins) table.senders

-- What is listed of these rows, of which those begin at these moments in which starts may be due.
abbrev pub listed_of : Page → Survey → Told → Table → List Hold → List ℕ → List Row → Listed
listed_of page survey told table holds begins rows = record {
  plain = survey.plain;
  garbled = survey.garbled;
  breach = is_breach_drawn survey.marked;
  fault = is_fault_drawn told rows;
  cut = survey.cut;
  due = is_due_drawn page table holds begins;
}
