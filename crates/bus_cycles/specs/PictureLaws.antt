-- What follows of the definitions for a picture as a whole: what lies under its rows, and what its legend lists. The contracts of `laws`
-- say that each of these holds.
use Rattle.std.specs.Prelude.{◌≡◌, ◌≢◌, ◌↔◌, ℕ, ◌+◌, ◌*◌, ◌/◌, ◌<◌, ◌≤◌, Bool, false, not, IsTrue, List, [], ◌++◌, length}
use Rattle.bus_audit.specs.Breaches.{held}
use Rattle.bus_regime.specs.declared.table_verdict.TableVerdict.{TableVerdict}
use Rattle.bus_strings.specs.Members.{In}
use Rattle.bus_table.specs.declared.mode.Mode.TheVariants.{Periodic}
use Rattle.bus_table.specs.Tables.{Sender, Table}
use Rattle.bus_table.specs.Timers.{due_of}
use Rattle.bus_table.specs.Valid.{is_valid}
use Rattle.bus_trace.specs.Traces.{Recording, IsTrace}
use Rattle.bus_trace.specs.Windows.{Window}
use Rattle.bus_pen.specs.declared.class.Class.TheVariants.{Tick}
use Rattle.bus_shapes.specs.declared.counts.Counts.{Counts}
use Rattle.bus_shapes.specs.declared.sent.Sent.{Sent}
use Rattle.bus_shapes.specs.declared.told.Told.{Told}
use Rattle.bus_shapes.specs.declared.told.Told.TheVariants.{Audit, OnCable, Findings}
use Rattle.bus_pen.specs.Shapes.{box_text}
use Rattle.bus_cycles.specs.Cuts.{is_whole}
use Rattle.bus_cycles.specs.CyclesTexts.{begins, breach_text, framed_in, listed_in, marks_text, page_in, survey_in, under_rows}
use Rattle.bus_cycles.specs.Dues.{due_line, due_text, dues_text}
use Rattle.bus_cycles.specs.Faults.{has_fault}
use Rattle.bus_cycles.specs.Laws.{IsPartOf, kept}
use Rattle.bus_cycles.specs.Legends.{breach_legend, cut_legend, due_legend, fault_legend, garbled_legend, plain_legend}
use Rattle.bus_cycles.specs.Listings.{Listed}
use Rattle.bus_cycles.specs.Pages.{Page, page_of}
use Rattle.bus_cycles.specs.Rows.{Row, extent_of, rows}
use Rattle.bus_cycles.specs.RowTexts.{Shaded, drawing_of, left_of}
use Rattle.bus_cycles.specs.Surveys.{Survey, breach_in, is_drawn}

-- ---- what lies under the rows
-- In a text this part stands right behind a front, and the other one behind both: in a picture what comes later lies over what comes
-- earlier.
pub record LiesUnder (other front part whole : List ℕ) : Type 0 where
  pub behind : List ℕ
  pub whole_is : whole ≡ front ++ part ++ behind
  pub over : IsPartOf other behind

-- The marks of the table hide no box: each box that is drawn of a transmission of a row comes behind them, and before them come only the
-- frame, what stands above the rows, and the lines of offsets.
abbrev pub MarksHideNoBox : Type 0
MarksHideNoBox =
    (frame : List ℕ) (window : Window) (verdict : TableVerdict) (told : Told) (table : Table) (trace : Recording) (row : Row) (x : Shaded)
    → In row (rows table window trace.list) → In x (kept (page_in window told table trace) row.begin [] row.sents)
    → LiesUnder (drawing_of (page_in window told table trace) row.place row.begin x)
    (under_rows frame (page_in window told table trace) (survey_in window told table trace) window told table trace)
    (marks_text (page_in window told table trace) table verdict) (framed_in frame window verdict told table trace)

-- ---- offsets
-- So many rows, from the first on, are those drawn ones in whose interval a start is due of a sender that held so many messages: one in
-- each of so many intervals from the settled start on.
abbrev pub AreDueRows : ℕ → ℕ → List Row → ℕ → Type 0
AreDueRows ti holds rows count =
    (row : Row) → In row rows → IsTrue (is_drawn row.place) → (row.begin / ti < holds) ↔ (row.place < count)

-- In periodic mode the line of a sender goes over exactly the drawn rows in which a start of it is due, of which there are no more than
-- rows are drawn, at the place of the moment at which it is, counted from the beginning of a row; and it has no other. Where there are
-- none, it has no line.
pub record IsMarkedDue (page : Page) (table : Table) (window : Window) (trace : Recording) (sender : Sender) : Type 0 where
  pub count : ℕ
  pub rows_are : AreDueRows table.ti (held trace.holds sender.number) (rows table window trace.list) count
  pub few : count ≤ length (begins window table trace)
  pub own : 0 < count → due_text page trace.holds (begins window table trace) sender
      ≡ box_text Tick (due_line page (due_of table sender) count)
  pub part : IsPartOf (due_text page trace.holds (begins window table trace) sender)
      (dues_text page table trace.holds (begins window table trace))
  pub none : count ≡ 0 → due_text page trace.holds (begins window table trace) sender ≡ []

abbrev pub DuesAreMarked : Type 0
DuesAreMarked =
    (table : Table) (window : Window) (trace : Recording) (survey : Survey) (counts : Counts) (sender : Sender) → IsTrue (is_valid table)
    → IsTrace trace → table.mode ≡ Periodic → In sender table.senders → IsMarkedDue (page_of table survey counts) table window trace sender

-- And there the box of a transmission begins, on a whole pixel, that begins when it is due.
abbrev pub BoxesBeginWhereDue : Type 0
BoxesBeginWhereDue =
    (table : Table) (survey : Survey) (counts : Counts) (sender : Sender) (begin lines : ℕ) (sent : Sent) → table.mode ≡ Periodic
    → sent.moment ≡ begin + due_of table sender
    → left_of (page_of table survey counts) begin sent
    ≡ (due_line (page_of table survey counts) (due_of table sender) lines).left / 10 * 10

-- ---- the legend
-- What the legend of a picture lists.
abbrev pub listed : Window → Told → Table → Recording → Listed
listed window told table trace =
    listed_in (page_in window told table trace) (survey_in window told table trace) window told table trace

-- A transmission of a drawn row of which this holds.
pub record IsDrawnWith (test : Sent → Bool) (rows : List Row) : Type 0 where
  pub row : Row
  pub one : In row rows
  pub drawn : IsTrue (is_drawn row.place)
  pub sent : Sent
  pub own : In sent row.sents
  pub is : IsTrue (test sent)

-- Plain boxes are listed exactly where a drawn row has a plain transmission.
abbrev pub PlainAreListed : Type 0
PlainAreListed =
    (window : Window) (told : Told) (table : Table) (trace : Recording)
    → (plain_legend (listed window told table trace).plain ≢ [])
    ↔ IsDrawnWith (λ (sent : Sent). not sent.garbled) (rows table window trace.list)

-- Hatched ones exactly where one has a garbled one.
abbrev pub GarbledAreListed : Type 0
GarbledAreListed =
    (window : Window) (told : Told) (table : Table) (trace : Recording)
    → (garbled_legend (listed window told table trace).garbled ≢ [])
    ↔ IsDrawnWith (λ (sent : Sent). sent.garbled) (rows table window trace.list)

-- The mark of a fault exactly where findings tell of one at a transmission of a drawn row.
abbrev pub HasDrawnFault : Told → List Row → Type 0
HasDrawnFault (Audit answer) rows = ⊥
HasDrawnFault (OnCable garbled) rows = ⊥
HasDrawnFault (Findings bounds judgements garbled) rows = IsDrawnWith (has_fault judgements.items) rows

abbrev pub FaultsAreListed : Type 0
FaultsAreListed =
    (window : Window) (told : Told) (table : Table) (trace : Recording)
    → (fault_legend (listed window told table trace).fault ≢ [])
    ↔ HasDrawnFault told (rows table window trace.list)

-- A drawn row that is cut.
pub record IsDrawnCut (page : Page) (rows : List Row) : Type 0 where
  pub row : Row
  pub one : In row rows
  pub drawn : IsTrue (is_drawn row.place)
  pub cut : is_whole page.cycle page.seen (extent_of row) ≡ false

-- Rows that are drawn open exactly where a drawn row is cut.
abbrev pub CutAreListed : Type 0
CutAreListed =
    (window : Window) (told : Told) (table : Table) (trace : Recording)
    → (cut_legend (listed window told table trace).cut ≢ [])
    ↔ IsDrawnCut (page_in window told table trace) (rows table window trace.list)

-- The line of an offset exactly where one is drawn.
abbrev pub DuesAreListed : Type 0
DuesAreListed =
    (window : Window) (told : Told) (table : Table) (trace : Recording)
    → (due_legend (listed window told table trace).due ≢ [])
    ↔ (dues_text (page_in window told table trace) table trace.holds (begins window table trace) ≢ [])

-- The mark of the first breach exactly where it is drawn.
abbrev pub BreachIsListed : Type 0
BreachIsListed =
    (window : Window) (told : Told) (table : Table) (trace : Recording)
    → (breach_legend (listed window told table trace).breach ≢ [])
    ↔ (breach_text (page_in window told table trace) (breach_in window told) (survey_in window told table trace).marked ≢ [])
