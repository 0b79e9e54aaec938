-- The timers of a table, each wherever it takes a pixel of a scale.
use Rattle.std.specs.Prelude.{ℕ, ◌+◌, ◌-◌, ◌*◌, Bool, ◌&&◌, ◌==◌, nat_eq, nat_le, nat_lt, List}
use Rattle.std.specs.Prelude.{[], ◌++◌, codes, decimal, take, Option, Some, None, if◌then◌else◌}
use Rattle.std.specs.List.{flat_map}
use Rattle.bus_strings.specs.Messages.{Entry}
use Rattle.bus_pen.specs.declared.class.Class.TheVariants.{Gap, GapWords, Interval, IntervalWords}
use Rattle.bus_pen.specs.declared.area.Area.{Area}
use Rattle.bus_pen.specs.declared.scale.Scale.{Scale}
use Rattle.bus_shapes.specs.declared.sent.Sent.{Sent}
use Rattle.bus_pen.specs.declared.measures.TheConstants.{PIXEL as pixel}
use Rattle.bus_pen.specs.Scales.{extent, place}
use Rattle.bus_shapes.specs.Sending.{sents}
use Rattle.bus_pen.specs.Shapes.{box_text, words_text}
use Rattle.bus_table.specs.Tables.{Table}
use Rattle.bus_table.specs.Timers.{quiet_of}
use Rattle.bus_picture.specs.Gaps.{gap_before, gap_behind, is_first}
use Rattle.bus_picture.specs.Gaps as gaps
use Rattle.bus_picture.specs.Intervals.{interval_to, last_start}
use Rattle.bus_picture.specs.Lanes.{lane_top}
use Rattle.bus_picture.specs.declared.measures.TheConstants.{GAP_BELOW as gap_below, GAP_LINE as gap_line, GAP_REACH as gap_reach}
use Rattle.bus_picture.specs.declared.measures.TheConstants.{GAP_ROOM as gap_room, INTERVAL_BELOW as interval_below}
use Rattle.bus_picture.specs.declared.measures.TheConstants.{INTERVAL_LINE as interval_line, INTERVAL_ROOM as interval_room}
use Rattle.bus_picture.specs.declared.measures.TheConstants.{LINE_HEIGHT as line_height, NARROW as narrow, NEAR_ROOM as near_room}
use Rattle.bus_picture.specs.declared.measures.TheConstants.{PLOT_LEFT as plot_left, STROKE_BELOW as stroke_below}
use Rattle.bus_picture.specs.declared.measures.TheConstants.{STROKE_HEIGHT as stroke_height}
pub use Rattle.bus_picture.specs.declared.lane_timings.LaneTimings.{LaneTimings}

-- Whether timers are drawn: the transmit interval is at least 200 pixels.
abbrev pub is_near : Scale → ℕ → Bool
is_near scale ti = nat_le (near_room * (scale.to - scale.from)) (ti * scale.width)

-- Whether what goes from one moment to a later one is drawn: it takes a pixel of the scale.
abbrev pub is_drawn : Scale → ℕ → ℕ → Bool
is_drawn scale from to = nat_lt from to && nat_le (place scale from + pixel) (place scale to)

-- A thin line from one moment to another.
abbrev pub line_area : Scale → ℕ → ℕ → ℕ → Area
line_area scale top from to = record { left = place scale from; top = top; width = extent scale from to; height = line_height }

-- ---- gaps
-- Whether a line has words: it takes the room that is asked for them, and ends so far behind the left edge of the plot that they begin
-- behind that, and not over the names beside the lane.
abbrev pub has_words : ℕ → Area → Bool
has_words room area = nat_le room area.width && nat_le (plot_left + gap_reach) (area.left + area.width)

-- Words above the end of a line, where they end too.
abbrev pub words_above : ℕ → Area → ℕ → List ℕ → List ℕ
words_above room area line words = if has_words room area then words_text GapWords (area.left + area.width) line words else []

-- A gap from one moment to another, in a row with this upper edge, and its words, which take this room.
abbrev pub gap_at : Scale → ℕ → ℕ → ℕ → ℕ → List ℕ → List ℕ
gap_at scale top room from to words =
    box_text Gap (line_area scale (top + gap_below) from to)
    ++ words_above room (line_area scale (top + gap_below) from to) (top + gap_line) words

-- ---- the bus
-- Whether a transmission comes a synchronization gap or more behind all before it, and the scale has that gap.
abbrev pub is_behind_gap : Scale → ℕ → Sent → Bool
is_behind_gap scale sg x =
    nat_lt 0 x.before && nat_le scale.from x.before && nat_lt x.before scale.to && nat_le (x.before + sg) scale.to
    && nat_le (x.before + sg) x.moment

-- A synchronization gap from one moment to another.
abbrev pub sync_gap : Scale → ℕ → ℕ → ℕ → ℕ → List ℕ
sync_gap scale top sg from to =
    if is_drawn scale from to then gap_at scale top gap_room from to (codes "SG " ++ decimal sg) else []

-- The one before a transmission, where there is one.
abbrev pub sync_before : Scale → ℕ → ℕ → Sent → List ℕ
sync_before scale top sg x = if is_behind_gap scale sg x then sync_gap scale top sg x.before (x.before + sg) else []

-- All of them.
abbrev pub bus_timer : Scale → ℕ → ℕ → List Entry → List ℕ
bus_timer scale top sg list = flat_map (sync_before scale top sg) (sents list)

-- ---- a lane
-- What is the same all along lane k of a trace with this horizon, of a sender with this terminal and this terminal gap.
abbrev pub timings_of : Table → ℕ → ℕ → ℕ → ℕ → LaneTimings
timings_of table horizon k terminal tg = record {
  k = k;
  top = lane_top k;
  terminal = terminal;
  tg = tg;
  sg = table.sg;
  ti = table.ti;
  quiet = quiet_of table;
  horizon = horizon;
}

-- How much of a terminal gap there is, and of how much, where it isn't whole.
abbrev pub gap_size : ℕ → gaps.Gap → List ℕ
gap_size tg gap = (if nat_eq (gap.to - gap.from) tg then [] else decimal (gap.to - gap.from) ++ codes " of ") ++ decimal tg

-- The room that is asked for its words: less where it isn't whole, since that is what they tell.
abbrev pub size_room : ℕ → gaps.Gap → ℕ
size_room tg gap = if nat_eq (gap.to - gap.from) tg then gap_room else narrow

-- The line of a terminal gap.
abbrev pub terminal_gap : Scale → ℕ → gaps.Gap → List ℕ
terminal_gap scale top gap =
    if is_drawn scale gap.from gap.to then box_text Gap (line_area scale (top + gap_below) gap.from gap.to) else []

-- Its words.
abbrev pub gap_words : Scale → ℕ → ℕ → gaps.Gap → List ℕ
gap_words scale top tg gap =
    if is_drawn scale gap.from gap.to
    then words_above (size_room tg gap) (line_area scale (top + gap_below) gap.from gap.to) (top + gap_line)
    (codes "TG " ++ gap_size tg gap)
    else []

-- The line of a transmit interval from one moment to another.
abbrev pub interval_text : Scale → ℕ → ℕ → ℕ → List ℕ
interval_text scale top from to = box_text Interval (line_area scale (top + interval_below) from to)

-- The stroke at its end, where it is over there and the scale has that: so an interval that a start or the window cuts has none.
abbrev pub interval_end : Scale → ℕ → ℕ → ℕ → ℕ → List ℕ
interval_end scale top ti from to =
    if nat_eq to (from + ti) && nat_le to scale.to
    then box_text Interval
    (record { left = place scale to - line_height; top = top + stroke_below; width = line_height; height = stroke_height })
    else []

-- Its words, in the first lane alone, since it is the same in all, where no start cuts it and they have room.
abbrev pub interval_words : Scale → ℕ → ℕ → ℕ → ℕ → ℕ → List ℕ
interval_words scale k top ti from to =
    if nat_eq k 0 && nat_eq to (from + ti) && nat_le interval_room (extent scale from to)
    then words_text IntervalWords (place scale to) (top + interval_line) (codes "TI " ++ decimal ti) else []

-- A transmit interval from a start to its end, in a lane.
abbrev pub interval_at : Scale → LaneTimings → ℕ → ℕ → List ℕ
interval_at scale timings from to =
    if is_drawn scale from to
    then interval_text scale timings.top from to ++ interval_end scale timings.top timings.ti from to
    ++ interval_words scale timings.k timings.top timings.ti from to
    else []

-- The one from the last start of the sender, where there is one, to its next, where there is one.
abbrev pub interval_behind : Scale → LaneTimings → Option ℕ → Option ℕ → List ℕ
interval_behind scale timings None next = []
interval_behind scale timings (Some moment) next = interval_at scale timings moment (interval_to timings.ti moment next)

-- The terminal gap of the sender before a transmission, its own or another's.
abbrev pub lane_gap : List Entry → LaneTimings → Sent → gaps.Gap
lane_gap list timings x = gap_before timings.quiet timings.sg timings.tg timings.terminal list x

-- The one behind all transmissions, as far as the horizon.
abbrev pub last_lane_gap : List Entry → LaneTimings → gaps.Gap
last_lane_gap list timings = gap_behind timings.quiet timings.sg timings.tg timings.terminal list timings.horizon

-- Its line before a transmission, once for all that begin at a moment.
abbrev pub line_before : Scale → List Entry → LaneTimings → Sent → List ℕ
line_before scale list timings x = if is_first list x then terminal_gap scale timings.top (lane_gap list timings x) else []

-- At a start of the sender: the transmit interval from its last start to this one, and the words of the terminal gap before this one.
abbrev pub start_at : Scale → List Entry → LaneTimings → Sent → List ℕ
start_at scale list timings x =
    interval_behind scale timings (last_start timings.terminal (take x.at list)) (Some x.moment)
    ++ gap_words scale timings.top timings.tg (lane_gap list timings x)

-- The timers of a sender at a transmission: the terminal gap that ends by then, and, where that is a start of the sender, what ends there.
abbrev pub timers_at : Scale → List Entry → LaneTimings → Sent → List ℕ
timers_at scale list timings x =
    line_before scale list timings x ++ (if x.terminal == timings.terminal then start_at scale list timings x else [])

-- Those behind all transmissions: the terminal gap, as far as the horizon, and the transmit interval from the last start of the sender.
abbrev pub timers_behind : Scale → List Entry → LaneTimings → List ℕ
timers_behind scale list timings =
    terminal_gap scale timings.top (last_lane_gap list timings)
    ++ interval_behind scale timings (last_start timings.terminal list) None

-- The timers of a sender: at each transmission, and behind all.
abbrev pub sender_timers : Scale → List Entry → LaneTimings → List ℕ
sender_timers scale list timings = flat_map (timers_at scale list timings) (sents list) ++ timers_behind scale list timings
