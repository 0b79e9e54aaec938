-- The text of a picture that has a row for each cycle.
use Rattle.std.specs.Prelude.{ℕ, ◌+◌, ◌-◌, Bool, ◌==◌, nat_le, nat_lt, min, List, [], ◌++◌, codes, decimal}
use Rattle.std.specs.Prelude.{Option, Some, None, if◌then◌else◌}
use Rattle.bus_regime.specs.declared.table_verdict.TableVerdict.{TableVerdict}
use Rattle.bus_regime.specs.declared.table_verdict.TableVerdict.TheVariants.{Accept, ShortCycle, SmallGap, NoSync}
use Rattle.bus_table.specs.declared.mode.Mode.{Mode}
use Rattle.bus_table.specs.declared.mode.Mode.TheVariants.{Aperiodic, Periodic}
use Rattle.bus_table.specs.Tables.{Table}
use Rattle.bus_trace.specs.Traces.{Recording}
use Rattle.bus_pen.specs.declared.axis.Axis.{Axis}
use Rattle.bus_pen.specs.declared.axis.Unit.TheVariants.{BitTimes, Microseconds}
use Rattle.bus_pen.specs.Axes.{axis_text}
use Rattle.bus_pen.specs.declared.class.Class.{Class}
use Rattle.bus_pen.specs.declared.class.Class.TheVariants.{Breach, Detail, Grid}
use Rattle.bus_pen.specs.declared.class.Class.TheVariants.{Mark, Note, Small, Tick}
use Rattle.bus_shapes.specs.Frames.{frame_text, tail_text}
use Rattle.bus_pen.specs.Numbers.{parted}
use Rattle.bus_shapes.specs.declared.told.Told.{Told}
use Rattle.bus_pen.specs.declared.scale.Scale.{Scale}
use Rattle.bus_pen.specs.Scales.{place}
use Rattle.bus_pen.specs.declared.area.Area.{Area}
use Rattle.bus_pen.specs.Shapes.{box_text, words_text}
use Rattle.bus_pen.specs.declared.measures.TheConstants.{LEFT_MARGIN as left_margin, RIGHT_MARGIN as right_margin}
use Rattle.bus_trace.specs.Windows.{Window}
use Rattle.bus_cycles.specs.Cuts.{seen_of}
use Rattle.bus_cycles.specs.Rows.{Extent, cycle_of, rows}
use Rattle.bus_cycles.specs.Sents.{shown}
use Rattle.bus_cycles.specs.Pages.{Page, bottom_of, page_of, top_of}
use Rattle.bus_cycles.specs.Dues.{begins_in, dues_text}
use Rattle.bus_cycles.specs.Listings.{Listed, listed_of}
use Rattle.bus_cycles.specs.Legends.{legend_text}
use Rattle.bus_cycles.specs.Faults.{faults_text}
use Rattle.bus_cycles.specs.Loads.{loads_text}
use Rattle.bus_cycles.specs.RowTexts.{line_of, pixel, rows_text}
use Rattle.bus_cycles.specs.Surveys.{Survey, breach_in, counts, is_drawn, most_rows, survey_of}
use Rattle.bus_cycles.specs.declared.measures.TheConstants.{BEFORE_MARK as before_mark, BEHIND_MARK as behind_mark}
use Rattle.bus_cycles.specs.declared.measures.TheConstants.{BREACH_BELOW as breach_below, BREACH_HEIGHT as breach_height}
use Rattle.bus_cycles.specs.declared.measures.TheConstants.{BREACH_LEFT as breach_left, BREACH_OVER as breach_over}
use Rattle.bus_cycles.specs.declared.measures.TheConstants.{BREACH_WIDTH as breach_width, ENDS_LEFT as ends_left}
use Rattle.bus_cycles.specs.declared.measures.TheConstants.{FOOT_HEIGHT as foot_height}
use Rattle.bus_cycles.specs.declared.measures.TheConstants.{LEAST_WORDS_LINE as least_words_line}
use Rattle.bus_cycles.specs.declared.measures.TheConstants.{LINE_WIDTH as line_width, LOAD_RIGHT as load_right, LONG_FOOT as long_foot}
use Rattle.bus_cycles.specs.declared.measures.TheConstants.{LONG_PICTURE as long_picture}
use Rattle.bus_cycles.specs.declared.measures.TheConstants.{LOWER_FOOT as lower_foot, LOWER_TOP as lower_top, LOWER_WORDS as lower_words}
use Rattle.bus_cycles.specs.declared.measures.TheConstants.{MARK_WORDS_LINE as mark_words_line, MARKS_TOP as marks_top}
use Rattle.bus_cycles.specs.declared.measures.TheConstants.{ROWS_LINE as rows_line, TICK_HEIGHT as tick_height, TICKS_FOOT as ticks_foot}
use Rattle.bus_cycles.specs.declared.measures.TheConstants.{UPPER_FOOT as upper_foot, UPPER_TICKS as upper_ticks}
use Rattle.bus_cycles.specs.declared.measures.TheConstants.{UPPER_WORDS as upper_words}

-- ---- the plot
-- Whether the rows reach so far down that axes stand below them too.
abbrev pub is_long : Page → Bool
is_long page = nat_lt long_picture (bottom_of page)

-- The height of the picture.
abbrev pub height_of : Page → ℕ
height_of page = bottom_of page + (if is_long page then long_foot else foot_height)

-- ---- words above the rows
-- Where the next row begins that isn't drawn.
abbrev pub next_words : Option ℕ → List ℕ
next_words None = []
next_words (Some begin) = codes ", next at " ++ parted (decimal begin)

-- How many rows are whole, drawn or not, and how far behind the begin of one its last transmission ends, at least and at most.
abbrev pub whole_words : Survey → List ℕ
whole_words survey =
    codes "; " ++ parted (decimal survey.whole) ++ codes " whole, their last ends " ++ parted (decimal survey.least) ++ codes " to "
    ++ parted (decimal survey.most) ++ codes " bit times behind their begins"

-- The same where there are rows.
abbrev pub last_ends_words : Survey → List ℕ
last_ends_words survey =
    if survey.count == 0 then [] else (if survey.whole == 0 then codes "; none whole" else whole_words survey)

-- How many rows are drawn of how many, where the next begins, and where the last of those ends that are whole.
abbrev pub row_words : Survey → List ℕ
row_words survey =
    codes "a row for each cycle, from its begin: " ++ parted (decimal (min survey.count most_rows)) ++ codes " of "
    ++ parted (decimal survey.count) ++ next_words survey.next ++ last_ends_words survey

-- The axis of microseconds.
abbrev pub upper_axis : Axis
upper_axis = record { unit = Microseconds; words = upper_words; class = Tick; top = upper_ticks; height = tick_height }

-- The axis of bit times, with lines over all rows down to a lower edge.
abbrev pub lower_axis_to : ℕ → Axis
lower_axis_to bottom = record { unit = BitTimes; words = lower_words; class = Grid; top = lower_top; height = bottom - lower_top }

-- The axis of bit times below the rows.
abbrev pub lower_axis_below : ℕ → Axis
lower_axis_below bottom = record { unit = BitTimes; words = bottom + lower_foot; class = Tick; top = bottom; height = tick_height }

-- The axis of microseconds below the rows.
abbrev pub upper_axis_below : ℕ → Axis
upper_axis_below bottom =
    record { unit = Microseconds; words = bottom + upper_foot; class = Tick; top = bottom + ticks_foot; height = tick_height }

-- Both axes below the rows.
abbrev pub axes_below : Scale → ℕ → List ℕ
axes_below scale bottom = axis_text scale (lower_axis_below bottom) ++ axis_text scale (upper_axis_below bottom)

-- They stand there where the rows reach far down.
abbrev pub below_text : Page → List ℕ
below_text page = if is_long page then axes_below page.scale (bottom_of page) else []

-- Both axes above the rows.
abbrev pub axes_text : Page → List ℕ
axes_text page = axis_text page.scale upper_axis ++ axis_text page.scale (lower_axis_to (bottom_of page))

-- What stands above the rows.
abbrev pub above_text : Page → Survey → Listed → List ℕ
above_text page survey listed =
    words_text Small left_margin rows_line (row_words survey) ++ legend_text listed ++ axes_text page
    ++ words_text Small left_margin mark_words_line (codes "cycle, its begin")
    ++ words_text Small ends_left lower_words (codes "first-last")
    ++ words_text Detail right_margin lower_words (codes "last end") ++ words_text Detail load_right lower_words (codes "load")

-- ---- marks
-- A line over all rows, at a distance from their beginning.
abbrev pub mark_line : Page → ℕ → Area
mark_line page t =
    record { left = place page.scale t; top = marks_top; width = line_width; height = bottom_of page - marks_top }

-- Its words, on this line above the rows.
abbrev pub mark_words : Class → ℕ → ℕ → List ℕ → ℕ → List ℕ
mark_words class left line name t = words_text class left line (name ++ decimal t)

-- A mark, with its words behind it, unless it lies behind all rows.
abbrev pub mark_text : Page → List ℕ → ℕ → List ℕ
mark_text page name t =
    if nat_le t page.scale.to
    then box_text Mark (mark_line page t) ++ mark_words Small (place page.scale t + behind_mark) mark_words_line name t
    else []

-- The mark of the least cycle. Its words stand before it, and a line lower, since it may be near that of the synchronization gap.
abbrev pub least_text : Page → ℕ → List ℕ
least_text page t =
    if nat_le t page.scale.to
    then box_text Mark (mark_line page t)
    ++ mark_words Detail (place page.scale t - before_mark) least_words_line (codes "least ") t
    else []

-- The mark of the transmit interval.
abbrev pub interval_mark : Page → Table → List ℕ
interval_mark page table = mark_text page (codes "TI ") table.ti

-- The marks of the synchronization gap and of the least cycle.
abbrev pub least_marks : Page → Table → ℕ → List ℕ
least_marks page table least = mark_text page (codes "SG ") table.sg ++ least_text page least

-- The marks of an accepted table: in aperiodic mode the synchronization gap, the least cycle and the greatest, else the interval.
abbrev pub accepted_marks : Page → Table → Mode → ℕ → ℕ → List ℕ
accepted_marks page table Aperiodic least most = least_marks page table least ++ mark_text page (codes "most ") most
accepted_marks page table Periodic least most = interval_mark page table

-- The marks of a table whose least cycle is too short: its interval too.
abbrev pub short_marks : Page → Table → ℕ → List ℕ
short_marks page table least = least_marks page table least ++ interval_mark page table

-- The marks of a table with this verdict.
abbrev pub marks_text : Page → Table → TableVerdict → List ℕ
marks_text page table (Accept mode least most) = accepted_marks page table mode least most
marks_text page table (ShortCycle least ti) = short_marks page table least
marks_text page table (SmallGap terminal gap needed) = interval_mark page table
marks_text page table (NoSync terminal gap needed) = interval_mark page table

-- ---- the first breach
-- A part of the line of a breach, with this upper edge.
abbrev pub breach_part : ℕ → ℕ → Area
breach_part left top = record { left = left; top = top; width = breach_width; height = breach_height }

-- The part above the boxes of a row.
abbrev pub part_above : Page → ℕ → ℕ → Area
part_above page left row = breach_part left (top_of page row - breach_over)

-- The part below the boxes of a row.
abbrev pub part_below : Page → ℕ → ℕ → Area
part_below page left row = breach_part left (top_of page row + page.row_height - breach_below)

-- The breach at a place in a row: both parts of its line, and a word behind all boxes.
abbrev pub breach_at : Page → ℕ → ℕ → List ℕ
breach_at page left row =
    box_text Breach (part_above page left row) ++ box_text Breach (part_below page left row)
    ++ words_text Note breach_left (line_of page row) (codes "breach")

-- The breach at this moment, in this row where it is drawn, on a whole pixel as the boxes are.
abbrev pub breach_in_row : Page → ℕ → Extent → List ℕ
breach_in_row page moment row = if is_drawn row.place then breach_at page (pixel page row.begin moment) row.place else []

-- The breach at this moment, if there is one, in the row that is marked, if one is.
abbrev pub breach_text : Page → Option ℕ → Option Extent → List ℕ
breach_text page None marked = []
breach_text page (Some moment) None = []
breach_text page (Some moment) (Some row) = breach_in_row page moment row

-- ---- the whole
-- The moments at which the rows of a window begin in which starts may be due.
abbrev pub begins : Window → Table → Recording → List ℕ
begins window table trace = begins_in table.mode (rows table window trace.list)

-- What the legend lists of them.
abbrev pub listed_in : Page → Survey → Window → Told → Table → Recording → Listed
listed_in page survey window told table trace =
    listed_of page survey told table trace.holds (begins window table trace) (rows table window trace.list)

-- What lies under all rows but the marks of the table: the frame, what stands above the rows, and the lines of offsets.
abbrev pub under_rows : List ℕ → Page → Survey → Window → Told → Table → Recording → List ℕ
under_rows frame page survey window told table trace =
    frame ++ above_text page survey (listed_in page survey window told table trace)
    ++ dues_text page table trace.holds (begins window table trace)

-- The picture of a window of a trace on a table in this frame, given what is told of its rows, and what these go by: the marks of the table
-- lie under the rows.
abbrev pub framed : List ℕ → Page → Survey → Window → TableVerdict → Told → Table → Recording → List ℕ
framed frame page survey window verdict told table trace =
    under_rows frame page survey window told table trace ++ marks_text page table verdict
    ++ rows_text page (rows table window trace.list) ++ loads_text page trace.list (rows table window trace.list) ++ below_text page
    ++ breach_text page (breach_in window told) survey.marked ++ faults_text page told (rows table window trace.list) ++ tail_text

-- The picture in its frame, given these.
abbrev pub text_of : Page → Survey → Window → TableVerdict → Told → Table → Recording → List ℕ
text_of page survey window verdict told table trace =
    framed (frame_text (height_of page) verdict told table trace.list (counts window trace)) page survey window verdict told table trace

-- What is told of the rows of a window of a trace.
abbrev pub survey_in : Window → Told → Table → Recording → Survey
survey_in window told table trace =
    survey_of (cycle_of table) (seen_of (counts window trace)) (breach_in window told) (shown window trace.list)

-- What these go by.
abbrev pub page_in : Window → Told → Table → Recording → Page
page_in window told table trace = page_of table (survey_in window told table trace) (counts window trace)

-- The picture of a window of a trace on a table, with what is told of the trace.
unfoldable pub cycles_text : Window → TableVerdict → Told → Table → Recording → List ℕ
cycles_text window verdict told table trace =
    text_of (page_in window told table trace) (survey_in window told table trace) window verdict told table trace

-- The same in another frame.
abbrev pub framed_in : List ℕ → Window → TableVerdict → Told → Table → Recording → List ℕ
framed_in frame window verdict told table trace =
    framed frame (page_in window told table trace) (survey_in window told table trace) window verdict told table trace
