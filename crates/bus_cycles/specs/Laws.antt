-- What follows of the definitions. The contracts of `laws` say that each of these holds.
use Rattle.std.specs.Prelude.{◌≡◌, ◌≢◌, ◌⊎◌, ◌↔◌, ℕ, ◌+◌, ◌%◌, ◌<◌, ◌≤◌, Bool, true, false, not, IsTrue, List, [], ◌∷◌, ◌++◌, length}
use Rattle.std.specs.Prelude.{◌&&◌, nat_le, slice_get, filter, Option, Some, if◌then◌else◌, ⊤}
use Rattle.std.specs.List.{AllByRecursion, count_by, flat_map, sum_by}
use Rattle.bus_strings.specs.Members.{In}
use Rattle.bus_strings.specs.Messages.{Entry}
use Rattle.bus_strings.specs.Transmissions.{garbled}
use Rattle.bus_table.specs.declared.mode.Mode.TheVariants.{Aperiodic, Periodic}
use Rattle.bus_table.specs.Tables.{Sender, Table}
use Rattle.bus_table.specs.Turns.{turn_order}
use Rattle.bus_table.specs.Valid.{is_valid}
use Rattle.bus_trace.specs.Traces.{Recording, IsTrace}
use Rattle.bus_pen.specs.Classes.{is_hatched}
use Rattle.bus_shapes.specs.declared.sent.Sent.{Sent}
use Rattle.bus_pen.specs.declared.area.Area.{Area}
use Rattle.bus_shapes.specs.declared.counts.Counts.{Counts}
use Rattle.bus_pen.specs.Scales.{IsScale}
use Rattle.bus_shapes.specs.SendingLaws.{IsToldOf}
use Rattle.bus_trace.specs.Windows.{Window}
use Rattle.bus_cycles.specs.Loads.{busy_of, whole_of}
use Rattle.bus_cycles.specs.Measures.{shades, slots}
use Rattle.bus_cycles.specs.Pages.{Page, page_of, scale_of}
use Rattle.bus_cycles.specs.Cuts.{Seen, is_cut_before, is_cut_behind, is_whole}
use Rattle.bus_cycles.specs.Rows.{Cycle, Extent, Row, cycle_of, extent_of, interval_of, rows}
use Rattle.bus_cycles.specs.RowTexts.{Shaded, all_shaded, area_of, before_area, before_text, behind_area, behind_text, boxes, class_of}
use Rattle.bus_cycles.specs.RowTexts.{drawing_of, is_due, is_free, is_left_out, lane_in, left_of, right_of, shade, shaded}
use Rattle.bus_cycles.specs.Sents.{shown}
use Rattle.bus_cycles.specs.Surveys.{Survey, counts, last_end_of, survey_of}

-- A part of a text.
pub record IsPartOf (part whole : List ℕ) : Type 0 where
  pub front : List ℕ
  pub back : List ℕ
  pub whole_is : whole ≡ front ++ part ++ back

-- The rows of a window are a partition: their transmissions, one behind the other, are exactly those that begin in it, in order.
abbrev pub RowsAreAPartition : Type 0
RowsAreAPartition =
    (table : Table) (window : Window) (list : List Entry) → flat_map (λ (row : Row). row.sents) (rows table window list) ≡ shown window list

-- Each transmission of a row is an entry of the list, and is hatched, whatever is drawn before it, exactly where that is garbled.
abbrev pub HatchedAreGarbled : Type 0
HatchedAreGarbled =
    (page : Page) (table : Table) (window : Window) (list : List Entry) (row : Row) (earlier : List Shaded) (sent : Sent) (width : ℕ)
    → In row (rows table window list) → In sent row.sents
    → IsToldOf list sent × (is_hatched (class_of width (shade page row.begin earlier sent)) ≡ garbled list sent.at)

-- In periodic mode each transmission of a row begins in the interval that begins with the row.
abbrev pub RowsAreIntervals : Type 0
RowsAreIntervals =
    (table : Table) (window : Window) (list : List Entry) (row : Row) (sent : Sent) → IsTrue (is_valid table) → table.mode ≡ Periodic
    → In row (rows table window list) → In sent row.sents
    → (row.begin ≡ interval_of table.ti sent.moment) × (row.begin ≤ sent.moment) × (sent.moment < row.begin + table.ti)

-- A row is a cycle of this synchronization gap: the first of its transmissions comes the gap or more behind the end of all earlier ones of
-- the list, but for the first row; each other one comes less than the gap behind it.
pub record IsCycle (gap : ℕ) (row : Row) : Type 0 where
  pub first : Sent
  pub others : List Sent
  pub sents_are : row.sents ≡ first ∷ others
  pub far : 0 < row.place → first.before + gap ≤ first.moment
  pub near : AllByRecursion (λ (sent : Sent). sent.moment < sent.before + gap) others

-- In aperiodic mode each row is a cycle.
abbrev pub RowsAreCycles : Type 0
RowsAreCycles =
    (table : Table) (window : Window) (list : List Entry) (row : Row) → IsTrue (is_valid table) → table.mode ≡ Aperiodic
    → In row (rows table window list) → IsCycle table.sg row

-- The place of a row says which one it is.
abbrev pub RowsAreNumbered : Type 0
RowsAreNumbered =
    (table : Table) (window : Window) (list : List Entry) (k : ℕ) (row : Row) → slice_get (rows table window list) k ≡ Some row
    → row.place ≡ k

-- Each of these rows begins later than all before it.
abbrev pub Ascend : List Row → Type 0
Ascend [] = ⊤
Ascend (row ∷ rows) = AllByRecursion (λ (next : Row). row.begin < next.begin) rows × Ascend rows

-- The rows of a window of a trace on a valid table do so.
abbrev pub RowsAscend : Type 0
RowsAscend =
    (table : Table) (window : Window) (trace : Recording) → IsTrue (is_valid table) → IsTrace trace → Ascend (rows table window trace.list)

-- A walk draws hatched boxes exactly where it is that for what is garbled, so that all of these are drawn after all others.
abbrev pub HatchedAreDrawnLast : Type 0
HatchedAreDrawnLast =
    (page : Page) (garbled : Bool) (begin : ℕ) (earlier : List Shaded) (sent : Sent) (width : ℕ) → IsTrue (is_due garbled sent)
    → is_hatched (class_of width (shade page begin earlier sent)) ≡ garbled

-- Each transmission is due in exactly one of the two walks.
abbrev pub EachIsDueOnce : Type 0
EachIsDueOnce = (sent : Sent) → is_due true sent ≡ not (is_due false sent)

-- The transmissions that aren't left out of a row that has these, each with its shade.
abbrev pub kept : Page → ℕ → List Shaded → List Sent → List Shaded
kept page begin earlier [] = []
kept page begin earlier (sent ∷ sents) =
    if is_left_out page begin earlier sent
    then kept page begin (earlier ++ shaded page begin earlier sent ∷ []) sents
    else shaded page begin earlier sent ∷ kept page begin (earlier ++ shaded page begin earlier sent ∷ []) sents

-- A walk draws of a row exactly those that aren't left out and are due in it, one behind the other.
abbrev pub KeptAreDrawn : Type 0
KeptAreDrawn =
    (page : Page) (garbled : Bool) (row begin : ℕ) (sents : List Sent)
    → boxes page garbled row begin [] sents
    ≡ flat_map (drawing_of page row begin) (filter (λ (x : Shaded). is_due garbled x.sent) (kept page begin [] sents))

-- Two senders that follow one another in turn order have different shades.
abbrev pub NeighboursDiffer : Type 0
NeighboursDiffer =
    (table : Table) (survey : Survey) (counts : Counts) (k begin : ℕ) (a b : Sender) (before before' : List Shaded) (one other : Sent)
    → IsTrue (is_valid table) → slice_get (turn_order table) k ≡ Some a → slice_get (turn_order table) (k + 1) ≡ Some b
    → one.terminal ≡ a.number → other.terminal ≡ b.number → one.garbled ≡ false → other.garbled ≡ false
    → shade (page_of table survey counts) begin before one ≢ shade (page_of table survey counts) begin before' other

-- One area lies above another.
abbrev pub LiesAbove : Area → Area → Type 0
LiesAbove one other = one.top + one.height ≤ other.top

-- A terminal keeps its slot, by its lane, wherever that is free: so its garbled transmissions lie at the same height in all rows.
abbrev pub SlotsAreKept : Type 0
SlotsAreKept =
    (page : Page) (begin : ℕ) (earlier : List Shaded) (sent : Sent) → sent.garbled ≡ true
    → IsTrue (is_free page begin earlier (left_of page begin sent) (lane_in page sent % slots))
    → shade page begin earlier sent ≡ 2 + lane_in page sent % slots

-- Two boxes of a row don't meet: one lies above the other, or begins where the other has ended.
abbrev pub LieApart : Area → Area → Type 0
LieApart one other = LiesAbove one other ⊎ (LiesAbove other one ⊎ (one.left + one.width ≤ other.left))

-- Whether a garbled transmission of a row reaches behind a place.
abbrev pub reaches_behind : Page → ℕ → ℕ → Shaded → Bool
reaches_behind page begin left x = nat_le 2 x.shade && nat_le (left + 1) (right_of page begin x.sent)

-- At most two garbled ones of these reach behind where a transmission begins.
abbrev pub AreFew : Page → ℕ → List Shaded → Sent → Type 0
AreFew page begin earlier sent = count_by (reaches_behind page begin (left_of page begin sent)) earlier ≤ 2

-- A garbled transmission isn't left out, and meets none of the garbled ones that come before it in its row, as long as at most two of these
-- reach behind its beginning: so of three that collide each is seen, whoever sends them.
abbrev pub ThreeLieApart : Type 0
ThreeLieApart =
    (table : Table) (survey : Survey) (counts : Counts) (row begin : ℕ) (earlier : List Shaded) (other : Shaded) (sent : Sent)
    → sent.garbled ≡ true → In other earlier → 2 ≤ other.shade → other.shade < shades
    → AreFew (page_of table survey counts) begin earlier sent
    → LieApart (area_of (page_of table survey counts) row begin other)
    (area_of (page_of table survey counts) row begin (shaded (page_of table survey counts) begin earlier sent))

abbrev pub ThreeAreKept : Type 0
ThreeAreKept =
    (page : Page) (begin : ℕ) (earlier : List Shaded) (sent : Sent) → sent.garbled ≡ true → AreFew page begin earlier sent
    → is_left_out page begin earlier sent ≡ false

-- No whole row has a last end below the least that is told, or above the greatest.
abbrev pub LastEndsAreOfRows : Type 0
LastEndsAreOfRows =
    (table : Table) (window : Window) (list : List Entry) (seen : Seen) (breach : Option ℕ) (row : Row) → In row (rows table window list)
    → IsTrue (is_whole (cycle_of table) seen (extent_of row))
    → ((survey_of (cycle_of table) seen breach (shown window list)).least ≤ last_end_of (cycle_of table).origin_offset (extent_of row))
    × (last_end_of (cycle_of table).origin_offset (extent_of row) ≤ (survey_of (cycle_of table) seen breach (shown window list)).most)

-- A whole row of a window has this last end.
pub record IsLastEndOfRow (table : Table) (window : Window) (list : List Entry) (seen : Seen) (last_end : ℕ) : Type 0 where
  pub row : Row
  pub one : In row (rows table window list)
  pub whole : IsTrue (is_whole (cycle_of table) seen (extent_of row))
  pub ends : last_end_of (cycle_of table).origin_offset (extent_of row) ≡ last_end

-- Where some row is told to be whole, a whole one has the least last end that is told, and one has the greatest.
abbrev pub RowsHaveLastEnds : Type 0
RowsHaveLastEnds =
    (table : Table) (window : Window) (list : List Entry) (seen : Seen) (breach : Option ℕ)
    → 0 < (survey_of (cycle_of table) seen breach (shown window list)).whole
    → IsLastEndOfRow table window list seen (survey_of (cycle_of table) seen breach (shown window list)).least
    × IsLastEndOfRow table window list seen (survey_of (cycle_of table) seen breach (shown window list)).most

-- The rows are counted.
abbrev pub RowsAreCounted : Type 0
RowsAreCounted =
    (table : Table) (window : Window) (list : List Entry) (seen : Seen) (breach : Option ℕ)
    → (survey_of (cycle_of table) seen breach (shown window list)).count ≡ length (rows table window list)

-- And so are those that are whole.
abbrev pub WholeAreCounted : Type 0
WholeAreCounted =
    (table : Table) (window : Window) (list : List Entry) (seen : Seen) (breach : Option ℕ)
    → (survey_of (cycle_of table) seen breach (shown window list)).whole
    ≡ count_by (λ (row : Row). is_whole (cycle_of table) seen (extent_of row)) (rows table window list)

-- A row is drawn open exactly where it is cut.
abbrev pub CutAreOpen : Type 0
CutAreOpen =
    (page : Page) (row : Extent)
    → ((before_text page row ≢ []) ↔ IsTrue (is_cut_before page.cycle page.seen row))
    × ((behind_text page row ≢ []) ↔ IsTrue (is_cut_behind page.cycle page.seen row))

-- Where a row is drawn open it hides none of its boxes: it is so left of them, and right of them.
abbrev pub OpenHidesNone : Type 0
OpenHidesNone =
    (table : Table) (survey : Survey) (counts : Counts) (row : Row) (x : Shaded) → IsScale (scale_of survey) → In x.sent row.sents
    → x.sent.moment ≤ x.sent.end
    → ((before_area (page_of table survey counts) row.place).left + (before_area (page_of table survey counts) row.place).width
    ≤ (area_of (page_of table survey counts) row.place row.begin x).left)
    × ((area_of (page_of table survey counts) row.place row.begin x).left
    + (area_of (page_of table survey counts) row.place row.begin x).width
    ≤ (behind_area (page_of table survey counts) (extent_of row)).left)

-- In aperiodic mode a whole row has its cycle from the first transmission to the last: the first comes a synchronization gap or more behind
-- the end of an earlier one and of all, and a synchronization gap or more is seen behind the end of the last.
abbrev pub WholeAreSeen : Type 0
WholeAreSeen =
    (table : Table) (window : Window) (list : List Entry) (seen : Seen) (row : Row) (first : Sent) (others : List Sent)
    → IsTrue (is_valid table) → table.mode ≡ Aperiodic → In row (rows table window list) → row.sents ≡ first ∷ others
    → IsTrue (is_whole (cycle_of table) seen (extent_of row))
    → (0 < first.before) × (first.before + table.sg ≤ first.moment) × ((extent_of row).end + table.sg ≤ seen.to)

-- A row says which terminals send the first and the last of its transmissions.
abbrev pub EndsAreNamed : Type 0
EndsAreNamed =
    (table : Table) (window : Window) (list : List Entry) (row : Row) (front back : List Sent) (first last : Sent)
    → In row (rows table window list) → row.sents ≡ first ∷ back → row.sents ≡ front ++ last ∷ []
    → (row.first ≡ first.terminal) × (row.last ≡ last.terminal)

-- No row is busy for more bit times than it has, so that no load passes 100 %.
abbrev pub LoadsAreShares : Type 0
LoadsAreShares = (cycle : Cycle) (list : List Entry) (row : Extent) → busy_of cycle list row ≤ whole_of cycle row

-- How many transmissions of a row are garbled.
abbrev pub garbled_of : Row → ℕ
garbled_of row = count_by (λ (sent : Sent). sent.garbled) row.sents

-- The counts above the plot are those of the rows: how many transmissions they have, and how many of these are garbled.
abbrev pub CountsAreOfRows : Type 0
CountsAreOfRows =
    (table : Table) (window : Window) (trace : Recording)
    → ((counts window trace).shown ≡ sum_by (λ (row : Row). length row.sents) (rows table window trace.list))
    × ((counts window trace).garbled ≡ sum_by garbled_of (rows table window trace.list))

-- A transmission is covered by an earlier one of its row, which isn't left out and has its shade: its box begins no later, and reaches as
-- far.
pub record IsCovered (page : Page) (begin : ℕ) (earlier : List Sent) (sent : Sent) : Type 0 where
  pub front : List Sent
  pub other : Sent
  pub back : List Sent
  pub earlier_are : earlier ≡ front ++ other ∷ back
  pub stays : is_left_out page begin (all_shaded page begin [] front) other ≡ false
  pub same : shade page begin (all_shaded page begin [] front) other ≡ shade page begin (all_shaded page begin [] earlier) sent
  pub left : left_of page begin other ≤ left_of page begin sent
  pub right : right_of page begin sent ≤ right_of page begin other

-- Each transmission of a row that is left out is covered.
abbrev pub LeftOutAreCovered : Type 0
LeftOutAreCovered =
    (table : Table) (window : Window) (trace : Recording) (page : Page) (row : Row) (earlier later : List Sent) (sent : Sent)
    → IsTrace trace → IsScale page.scale → In row (rows table window trace.list) → row.sents ≡ earlier ++ sent ∷ later
    → is_left_out page row.begin (all_shaded page row.begin [] earlier) sent ≡ true → IsCovered page row.begin earlier sent
