-- The text of a time line.
use Rattle.std.specs.Prelude.{ℕ, ◌+◌, ◌-◌, ◌%◌, Bool, true, false, nat_eq, List, [], ◌∷◌}
use Rattle.std.specs.Prelude.{◌++◌, length, codes, decimal, Option, Some, None, if◌then◌else◌}
use Rattle.std.specs.Option.{option_map_or}
use Rattle.bus_regime.specs.declared.table_verdict.TableVerdict.{TableVerdict}
use Rattle.bus_table.specs.Fits.{sender_of}
use Rattle.bus_table.specs.Tables.{Sender, Table}
use Rattle.bus_table.specs.declared.mode.Mode.{Mode}
use Rattle.bus_table.specs.declared.mode.Mode.TheVariants.{Aperiodic, Periodic}
use Rattle.bus_trace.specs.Traces.{Recording}
use Rattle.bus_strings.specs.Messages.{Entry}
use Rattle.bus_audit.specs.Breaches.{held}
use Rattle.bus_dump.specs.declared.lane.Lane.{Lane}
use Rattle.bus_dump.specs.Lanes.{lanes}
use Rattle.bus_pen.specs.declared.axis.Axis.{Axis}
use Rattle.bus_pen.specs.declared.axis.Unit.TheVariants.{BitTimes, Microseconds}
use Rattle.bus_pen.specs.Axes.{axis_text}
use Rattle.bus_pen.specs.declared.class.Class.TheVariants.{Band, Detail, Grid, Small}
use Rattle.bus_pen.specs.declared.class.Class.TheVariants.{Tick, Unobserved}
use Rattle.bus_pen.specs.declared.class.Class.TheVariants as classes
use Rattle.bus_shapes.specs.Frames.{frame_text, tail_text}
use Rattle.bus_shapes.specs.declared.told.Told.{Told}
use Rattle.bus_pen.specs.declared.scale.Scale.{Scale}
use Rattle.bus_pen.specs.Scales.{extent, place}
use Rattle.bus_pen.specs.Shapes.{box_text, titled_text, words_text}
use Rattle.bus_trace.specs.Windows.{Window}
pub use Rattle.bus_picture.specs.Lanes.{drawn_lanes, each_lane, lane_top}
pub use Rattle.bus_picture.specs.Kinds.{Kinds, counts_of, goes_behind, has_thin, is_shown, is_shown_thin, kinds_of}
use Rattle.bus_picture.specs.Legends.{legend_text}
use Rattle.bus_picture.specs.Loads.{loads_text}
use Rattle.bus_picture.specs.Faults.{told_text}
use Rattle.bus_picture.specs.Offsets.{offsets_text}
use Rattle.bus_picture.specs.Paces.{paces_text}
use Rattle.bus_picture.specs.Rows.{Row, rows_text}
use Rattle.bus_picture.specs.OverlapBands.{overlap_bands_text}
use Rattle.bus_picture.specs.Timers.{bus_timer, is_near, sender_timers, timings_of}
use Rattle.bus_picture.specs.declared.measures.TheConstants.{BUS_LINE as bus_line, FOOT_HEIGHT as foot_height}
use Rattle.bus_picture.specs.declared.measures.TheConstants.{LEFT_OUT_LINE as left_out_line, LEGEND_BELOW as legend_below}
use Rattle.bus_picture.specs.declared.measures.TheConstants.{LOWER_WORDS as lower_words, NAMES_RIGHT as names_right}
use Rattle.bus_picture.specs.declared.measures.TheConstants.{PLOT_LEFT as plot_left, PLOT_TOP as plot_top, PLOT_WIDTH as plot_width}
use Rattle.bus_picture.specs.declared.measures.TheConstants.{ROW_HEIGHT as row_height, TERMINAL_LINE as terminal_line}
use Rattle.bus_picture.specs.declared.measures.TheConstants.{TICK_HEIGHT as tick_height, TIMERS_LINE as timers_line}
use Rattle.bus_picture.specs.declared.measures.TheConstants.{UPPER_TICKS as upper_ticks, UPPER_WORDS as upper_words}

-- ---- where things are
-- The scale of a window.
abbrev pub scale_of : Window → Scale
scale_of window = record { from = window.from; to = window.to; left = plot_left; width = plot_width }

-- ---- the lanes
-- The lanes of a scale: those of a table and a list that are drawn there.
abbrev pub lanes_in : Scale → Told → Table → List Entry → List Lane
lanes_in scale told table list = drawn_lanes scale told list (lanes table list)

-- How many lanes are left out, below the plot, where some are.
abbrev pub left_out_text : ℕ → ℕ → List ℕ
left_out_text bottom count =
    if nat_eq count 0 then []
    else words_text Small plot_left (bottom + left_out_line) (decimal count ++ codes " more terminals send nothing in this window")

-- The offset of a sender, which it has in periodic mode.
abbrev pub offset_words : Mode → ℕ → List ℕ
offset_words Aperiodic at = []
offset_words Periodic at = codes " AT " ++ decimal at

-- The timers of a sender, in words.
abbrev pub timer_words : Mode → ℕ → ℕ → List ℕ
timer_words mode tg at = codes "TG " ++ decimal tg ++ offset_words mode at

-- These words, beside the lane with this upper edge.
abbrev pub sender_text : Mode → ℕ → Sender → List ℕ
sender_text mode top sender = words_text Detail names_right (top + timers_line) (timer_words mode sender.tg sender.at)

-- The terminal of a lane.
abbrev pub terminal_text : ℕ → ℕ → List ℕ
terminal_text top terminal = words_text classes.Counts names_right (top + terminal_line) (codes "T" ++ decimal terminal)

-- The band behind every second lane.
abbrev pub band_text : ℕ → ℕ → List ℕ
band_text k top =
    if nat_eq (k % 2) 0 then box_text Band (record { left = plot_left; top = top; width = plot_width; height = row_height }) else []

-- What stands behind and beside lane k.
abbrev pub lane_front : Table → ℕ → Lane → List ℕ
lane_front table k lane =
    band_text k (lane_top k) ++ terminal_text (lane_top k) lane.terminal
    ++ option_map_or (sender_text table.mode (lane_top k)) (sender_of table.senders lane.terminal) []

-- ---- the rows
-- A row of one place: of what is garbled, or of what isn't.
abbrev pub row_at : Option ℕ → ℕ → Bool → Row
row_at terminal top garbled = record { terminal = terminal; garbled = garbled; top = top }

-- The two rows of one place, in the order in which they are drawn: what isn't garbled, and over it what is.
abbrev pub rows_at : Option ℕ → ℕ → List Row
rows_at terminal top = row_at terminal top false ∷ (row_at terminal top true ∷ [])

-- The rows of the bus.
abbrev pub bus_rows : List Row
bus_rows = rows_at None plot_top

-- The rows of lane k.
abbrev pub lane_rows : ℕ → Lane → List Row
lane_rows k lane = rows_at (Some lane.terminal) (lane_top k)

-- The rows of all lanes.
abbrev pub rows_of_lanes : List Lane → List Row
rows_of_lanes lanes = each_lane lane_rows 0 lanes

-- All rows, in the order in which they are drawn.
abbrev pub rows_of : List Lane → List Row
rows_of lanes = bus_rows ++ rows_of_lanes lanes

-- ---- the timers
-- The timers of a sender in lane k, and where it should start.
abbrev pub lane_sender : Scale → Table → Recording → ℕ → Lane → Sender → List ℕ
lane_sender scale table trace k lane sender =
    sender_timers scale trace.list (timings_of table trace.horizon k lane.terminal sender.tg)
    ++ offsets_text table.mode scale (lane_top k) table.ti sender.at (held trace.holds lane.terminal)

-- The same of lane k, where its terminal is a sender.
abbrev pub lane_timers : Scale → Table → Recording → ℕ → Lane → List ℕ
lane_timers scale table trace k lane =
    option_map_or (lane_sender scale table trace k lane) (sender_of table.senders lane.terminal) []

-- Those of the bus and of the lanes, where the scale is near enough.
abbrev pub timers_text : Scale → List Lane → Table → Recording → List ℕ
timers_text scale lanes table trace =
    if is_near scale table.ti
    then bus_timer scale plot_top table.sg trace.list ++ each_lane (lane_timers scale table trace) 0 lanes else []

-- ---- around the lanes
-- What lies behind the horizon.
abbrev pub unobserved_text : Scale → ℕ → ℕ → List ℕ
unobserved_text scale bottom horizon =
    if goes_behind scale horizon
    then titled_text Unobserved (record {
      left = place scale horizon;
      top = plot_top;
      width = extent scale horizon scale.to;
      height = bottom - plot_top;
    }) (codes "not observed: the horizon is " ++ decimal horizon)
    else []

-- The axis above the plot, of microseconds.
abbrev pub upper_axis : Axis
upper_axis = record { unit = Microseconds; words = upper_words; class = Tick; top = upper_ticks; height = tick_height }

-- The axis below the plot, of bit times.
abbrev pub lower_axis : ℕ → Axis
lower_axis bottom = record { unit = BitTimes; words = bottom + lower_words; class = Grid; top = plot_top; height = bottom - plot_top }

-- Both axes.
abbrev pub axes_text : Scale → ℕ → List ℕ
axes_text scale bottom = axis_text scale upper_axis ++ axis_text scale (lower_axis bottom)

-- ---- the whole
-- The plot, above a lower edge.
abbrev pub plot_text : Scale → ℕ → List Lane → Told → Table → Recording → List ℕ
plot_text scale bottom lanes told table trace =
    words_text classes.Counts names_right (plot_top + bus_line) (codes "bus") ++ paces_text scale lanes trace.list
    ++ loads_text scale lanes trace.list
    ++ each_lane (lane_front table) 0 lanes
    ++ axes_text scale bottom ++ unobserved_text scale bottom trace.horizon
    ++ overlap_bands_text scale bottom trace.list ++ rows_text scale table trace.list (rows_of lanes) ++ timers_text scale lanes table trace
    ++ told_text scale table.ti lanes told trace.list

-- What stands below the plot of a picture with these kinds of marks: how many lanes are left out, and the legend.
abbrev pub foot_text : ℕ → ℕ → Kinds → List ℕ
foot_text bottom left_out kinds = left_out_text bottom left_out ++ legend_text kinds (bottom + legend_below)

-- A picture with these lanes, and with so many left out.
abbrev pub picture_text : Scale → List Lane → ℕ → TableVerdict → Told → Table → Recording → List ℕ
picture_text scale lanes left_out verdict told table trace =
    frame_text (lane_top (length lanes) + foot_height) verdict told table trace.list (counts_of scale trace)
    ++ plot_text scale (lane_top (length lanes)) lanes told table trace
    ++ foot_text (lane_top (length lanes)) left_out (kinds_of scale lanes table trace) ++ tail_text

-- A picture with those of these lanes that are drawn.
abbrev pub drawn_text : Scale → List Lane → TableVerdict → Told → Table → Recording → List ℕ
drawn_text scale lanes verdict told table trace =
    picture_text scale (drawn_lanes scale told trace.list lanes) (length lanes - length (drawn_lanes scale told trace.list lanes))
    verdict told table trace

-- The time line of a trace in a window, with the words of the verdict on the table and what is told of the trace.
unfoldable pub time_line_text : Window → TableVerdict → Told → Table → Recording → List ℕ
time_line_text window verdict told table trace =
    drawn_text (scale_of window) (lanes table trace.list) verdict told table trace
