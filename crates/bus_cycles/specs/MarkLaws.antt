-- What follows of the definitions for the marks of breaches and of faults. The contracts of `laws` say that each of these holds.
use Rattle.std.specs.Prelude.{◌≡◌, ℕ, ◌+◌, ◌-◌, ◌<◌, ◌≤◌, IsTrue, List, [], slice_get, Some}
use Rattle.bus_strings.specs.Members.{In}
use Rattle.bus_strings.specs.Messages.{Entry}
use Rattle.bus_table.specs.declared.mode.Mode.TheVariants.{Periodic}
use Rattle.bus_table.specs.Tables.{Table}
use Rattle.bus_table.specs.Valid.{is_valid}
use Rattle.bus_trace.specs.Traces.{Recording, IsTrace}
use Rattle.bus_shapes.specs.declared.sent.Sent.{Sent}
use Rattle.bus_pen.specs.declared.area.Area.{Area}
use Rattle.bus_shapes.specs.declared.counts.Counts.{Counts}
use Rattle.bus_pen.specs.Scales.{IsScale}
use Rattle.bus_trace.specs.Windows.{Window}
use Rattle.bus_findings.specs.declared.judgement.Judgement.{Judgement}
use Rattle.bus_findings.specs.Terminals.{fault_sum, is_faulty}
use Rattle.bus_audit.specs.declared.answer.AuditAnswer.TheVariants.{Lawful}
use Rattle.bus_regime.specs.declared.table_verdict.TableVerdict.{TableVerdict}
use Rattle.bus_shapes.specs.declared.told.Told.TheVariants.{Audit, OnCable}
use Rattle.bus_cycles.specs.CyclesTexts.{framed_in, part_above, part_below}
use Rattle.bus_cycles.specs.Faults.{fault_at, faults_of, lower_part, upper_part}
use Rattle.bus_cycles.specs.Laws.{IsPartOf, LiesAbove}
use Rattle.bus_cycles.specs.declared.measures.TheConstants.{BREACH_LEFT as breach_left}
use Rattle.bus_cycles.specs.Pages.{Page, page_of, scale_of}
use Rattle.bus_cycles.specs.Cuts.{Seen}
use Rattle.bus_cycles.specs.Rows.{Extent, Row, cycle_of, extent_of, rows, takes}
use Rattle.bus_cycles.specs.Measures.{shades}
use Rattle.bus_cycles.specs.RowTexts.{Shaded, area_of}
use Rattle.bus_cycles.specs.Sents.{shown}
use Rattle.bus_cycles.specs.Surveys.{Survey, is_drawn, survey_of}

-- The two parts of the line of a breach in a row lie above and below the box of each transmission of the row, of whatever shade.
abbrev pub BreachHidesNone : Type 0
BreachHidesNone =
    (table : Table) (survey : Survey) (counts : Counts) (row begin left : ℕ) (x : Shaded) → x.shade < shades
    → LiesAbove (part_above (page_of table survey counts) left row) (area_of (page_of table survey counts) row begin x)
    × LiesAbove (area_of (page_of table survey counts) row begin x) (part_below (page_of table survey counts) left row)

-- The word of a breach begins behind the box of each transmission of each row.
abbrev pub BreachWordHidesNone : Type 0
BreachWordHidesNone =
    (table : Table) (survey : Survey) (counts : Counts) (row begin : ℕ) (x : Shaded) → IsScale (scale_of survey)
    → (area_of (page_of table survey counts) row begin x).left + (area_of (page_of table survey counts) row begin x).width
    ≤ breach_left

-- Each transmission at which a fault is found has its mark in the row that is drawn of it, with what is found.
abbrev pub FaultsAreMarked : Type 0
FaultsAreMarked =
    (page : Page) (table : Table) (window : Window) (list : List Entry) (judgements : List Judgement) (row : Row) (sent : Sent)
    (found : Judgement)
    → In row (rows table window list) → In sent row.sents → IsTrue (is_drawn row.place)
    → slice_get judgements sent.at ≡ Some found → IsTrue (is_faulty found)
    → IsPartOf (fault_at page row.place row.begin sent found) (faults_of page judgements (rows table window list))

-- Where the heading counts no fault, none is marked.
abbrev pub NoFaultIsMarked : Type 0
NoFaultIsMarked =
    (page : Page) (judgements : List Judgement) (rows : List Row) → fault_sum judgements ≡ 0 → faults_of page judgements rows ≡ []

-- But for its frame the picture of what was recorded on a cable is that of a lawful trace, in which no breach is marked.
abbrev pub CableIsUnmarked : Type 0
CableIsUnmarked =
    (frame : List ℕ) (window : Window) (verdict : TableVerdict) (table : Table) (trace : Recording) (garbled collided : ℕ)
    → framed_in frame window verdict (OnCable garbled) table trace ≡ framed_in frame window verdict (Audit (Lawful collided)) table trace

-- A line across the box of a transmission meets no part of a mark of its row, so that something of the box is seen.
pub record IsSeenBetween (above below box : Area) : Type 0 where
  pub line : ℕ
  pub top : box.top ≤ line
  pub bottom : line < box.top + box.height
  pub under : above.top + above.height ≤ line
  pub over : line < below.top

-- No mark of a fault hides a box.
abbrev pub FaultHidesNone : Type 0
FaultHidesNone =
    (table : Table) (survey : Survey) (counts : Counts) (row begin left : ℕ) (x : Shaded) → x.shade < shades
    → IsSeenBetween (upper_part (page_of table survey counts) left row) (lower_part (page_of table survey counts) left row)
    (area_of (page_of table survey counts) row begin x)

-- What is told of the rows of a window with a breach at this moment.
abbrev pub survey_with : Table → Window → List Entry → Seen → ℕ → Survey
survey_with table window list seen moment = survey_of (cycle_of table) seen (Some moment) (shown window list)

-- The breach stands at its moment in the row of this extent: the row has begun by then, the scale holds the moment, and so does the row's
-- interval in periodic mode.
pub record IsAtItsMoment (table : Table) (window : Window) (list : List Entry) (seen : Seen) (moment : ℕ) (extent : Extent) : Type 0 where
  pub row : Row
  pub one : In row (rows table window list)
  pub extent_is : extent ≡ extent_of row
  pub begun : extent.begin ≤ moment + (cycle_of table).origin_offset
  pub held : moment + (cycle_of table).origin_offset - extent.begin ≤ (scale_of (survey_with table window list seen moment)).to
  pub within : table.mode ≡ Periodic → moment < extent.begin + table.ti

-- A breach that is drawn stands at its moment.
abbrev pub BreachIsAtItsMoment : Type 0
BreachIsAtItsMoment =
    (table : Table) (window : Window) (list : List Entry) (seen : Seen) (moment : ℕ) (extent : Extent) → IsTrue (is_valid table)
    → (survey_with table window list seen moment).marked ≡ Some extent → IsTrue (is_drawn extent.place)
    → IsAtItsMoment table window list seen moment extent

-- A row is marked that doesn't begin before this one.
pub record IsMarkedBehind (table : Table) (window : Window) (list : List Entry) (seen : Seen) (moment : ℕ) (row : Row) : Type 0 where
  pub extent : Extent
  pub marked : (survey_with table window list seen moment).marked ≡ Some extent
  pub last : row.begin ≤ extent.begin

-- Where rows take the moment of a breach that the window has, one is marked, and none of them begins later.
abbrev pub TheLastRowIsMarked : Type 0
TheLastRowIsMarked =
    (table : Table) (window : Window) (trace : Recording) (seen : Seen) (moment : ℕ) (row : Row) → IsTrue (is_valid table) → IsTrace trace
    → In row (rows table window trace.list) → IsTrue (takes (cycle_of table) (extent_of row) moment)
    → IsMarkedBehind table window trace.list seen moment row
