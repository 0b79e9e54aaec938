-- What kinds of marks a time line has, each a test that computes. Its legend lists these, and no other.
use Rattle.std.specs.Prelude.{ℕ, ◌+◌, Bool, false, ◌&&◌, ◌||◌, ◌==◌, nat_lt, List, take, Option, Some, None}
use Rattle.std.specs.List.{count_by, list_any}
use Rattle.std.specs.Option.{option_map_or}
use Rattle.bus_strings.specs.Messages.{Entry}
use Rattle.bus_table.specs.Fits.{sender_of}
use Rattle.bus_table.specs.Tables.{Sender, Table}
use Rattle.bus_table.specs.declared.mode.Mode.{Mode}
use Rattle.bus_table.specs.declared.mode.Mode.TheVariants.{Aperiodic, Periodic}
use Rattle.bus_trace.specs.Traces.{Recording}
use Rattle.bus_audit.specs.Breaches.{held}
use Rattle.bus_dump.specs.declared.lane.Lane.{Lane}
use Rattle.bus_shapes.specs.declared.counts.Counts.{Counts}
use Rattle.bus_pen.specs.declared.scale.Scale.{Scale}
use Rattle.bus_shapes.specs.declared.sent.Sent.{Sent}
use Rattle.bus_shapes.specs.Sending.{sents}
use Rattle.bus_picture.specs.Boxes.{is_thin}
use Rattle.bus_picture.specs.Gaps.{Gap, is_first}
use Rattle.bus_picture.specs.Intervals.{interval_to, last_start}
use Rattle.bus_picture.specs.Offsets.{rounds_in}
use Rattle.bus_picture.specs.Strings.{meets}
use Rattle.bus_picture.specs.Timers.{LaneTimings, is_behind_gap, is_drawn, is_near, lane_gap, last_lane_gap, timings_of}
use Rattle.bus_picture.specs.OverlapBands.{has_overlap_bands}
pub use Rattle.bus_picture.specs.declared.kinds.Kinds.{Kinds}
pub use Rattle.bus_picture.specs.declared.kinds.TimerMark.{TimerMark}
use Rattle.bus_picture.specs.declared.kinds.TimerMark.TheVariants.{Gaps, Intervals, Offsets}

-- ---- boxes
-- Whether a transmission meets the window.
abbrev pub is_shown : Scale → Sent → Bool
is_shown scale x = meets scale x.moment x.end

-- The transmissions that meet the window, and how many of them are garbled.
abbrev pub counts_of : Scale → Recording → Counts
counts_of scale trace = record {
  from = scale.from;
  to = scale.to;
  horizon = trace.horizon;
  shown = count_by (is_shown scale) (sents trace.list);
  garbled = count_by (λ x. is_shown scale x && x.garbled) (sents trace.list);
}

-- Whether one of these isn't garbled.
abbrev pub has_messages : Counts → Bool
has_messages counts = nat_lt counts.garbled counts.shown

-- Whether one of them is.
abbrev pub has_garbled : Counts → Bool
has_garbled counts = nat_lt 0 counts.garbled

-- Whether a transmission is shown and takes less than a pixel.
abbrev pub is_shown_thin : Scale → Sent → Bool
is_shown_thin scale x = is_shown scale x && is_thin scale x

-- Whether a list has one.
abbrev pub has_thin : Scale → List Entry → Bool
has_thin scale list = list_any (is_shown_thin scale) (sents list)

-- ---- what lies behind them
-- Whether the window goes on behind the horizon.
abbrev pub goes_behind : Scale → ℕ → Bool
goes_behind scale horizon = nat_lt horizon scale.to

-- ---- the timers of the bus
-- Whether the line of the synchronization gap before a transmission is drawn.
abbrev pub is_sync : Scale → ℕ → Sent → Bool
is_sync scale sg x = is_behind_gap scale sg x && is_drawn scale x.before (x.before + sg)

-- Whether that of one of them is.
abbrev pub has_sync : Scale → ℕ → List Entry → Bool
has_sync scale sg list = list_any (is_sync scale sg) (sents list)

-- ---- the timers of a sender
-- Whether the line of a terminal gap is drawn.
abbrev pub is_gap : Scale → Gap → Bool
is_gap scale gap = is_drawn scale gap.from gap.to

-- Whether that of the one before a transmission is, once for all that begin at a moment.
abbrev pub has_gap_before : Scale → List Entry → LaneTimings → Sent → Bool
has_gap_before scale list timings x = is_first list x && is_gap scale (lane_gap list timings x)

-- Whether that of one of a sender is: before a transmission, or behind all.
abbrev pub has_gap : Scale → List Entry → LaneTimings → Bool
has_gap scale list timings = list_any (has_gap_before scale list timings) (sents list) || is_gap scale (last_lane_gap list timings)

-- Whether the line of the transmit interval is drawn from the last start of a sender, where there is one, to its next, where there is one.
abbrev pub is_interval : Scale → LaneTimings → Option ℕ → Option ℕ → Bool
is_interval scale timings None next = false
is_interval scale timings (Some moment) next = is_drawn scale moment (interval_to timings.ti moment next)

-- Whether that of the one up to a transmission is, where that is a start of the sender.
abbrev pub has_interval_before : Scale → List Entry → LaneTimings → Sent → Bool
has_interval_before scale list timings x =
    x.terminal == timings.terminal && is_interval scale timings (last_start timings.terminal (take x.at list)) (Some x.moment)

-- Whether that of one of a sender is: up to a start, or behind all.
abbrev pub has_interval : Scale → List Entry → LaneTimings → Bool
has_interval scale list timings =
    list_any (has_interval_before scale list timings) (sents list) || is_interval scale timings (last_start timings.terminal list) None

-- Whether a tick is drawn of a sender with this offset that held so many messages, which has none in aperiodic mode.
abbrev pub has_tick : Mode → Scale → ℕ → ℕ → ℕ → Bool
has_tick Aperiodic scale ti at held = false
has_tick Periodic scale ti at held = nat_lt 0 (rounds_in scale ti at held)

-- What is the same all along the lane of a sender: but for where the lane lies, that of any lane.
abbrev pub timings_in : Table → Recording → Lane → Sender → LaneTimings
timings_in table trace lane sender = timings_of table trace.horizon 0 lane.terminal sender.tg

-- Whether a mark of this kind is drawn of a sender whose timers are drawn.
abbrev pub sender_has : Scale → Table → Recording → TimerMark → Lane → Sender → Bool
sender_has scale table trace Gaps lane sender = has_gap scale trace.list (timings_in table trace lane sender)
sender_has scale table trace Intervals lane sender = has_interval scale trace.list (timings_in table trace lane sender)
sender_has scale table trace Offsets lane sender = has_tick table.mode scale table.ti sender.at (held trace.holds lane.terminal)

-- Whether one is in a lane, where its terminal is a sender.
abbrev pub lane_has : Scale → Table → Recording → TimerMark → Lane → Bool
lane_has scale table trace mark lane =
    option_map_or (sender_has scale table trace mark lane) (sender_of table.senders lane.terminal) false

-- Whether one is in one of these lanes.
abbrev pub lanes_have : Scale → Table → Recording → TimerMark → List Lane → Bool
lanes_have scale table trace mark lanes = list_any (lane_has scale table trace mark) lanes

-- ---- the timers
-- Whether a mark of this kind is drawn in these lanes: where the scale is near enough, and one of them has one.
abbrev pub has_timed : Scale → Table → Recording → TimerMark → List Lane → Bool
has_timed scale table trace mark lanes = is_near scale table.ti && lanes_have scale table trace mark lanes

-- Whether the line of a gap is drawn: the same of gaps in these lanes, or on the bus.
abbrev pub has_gaps : Scale → Table → Recording → List Lane → Bool
has_gaps scale table trace lanes =
    is_near scale table.ti && (lanes_have scale table trace Gaps lanes || has_sync scale table.sg trace.list)

-- ---- the whole
-- The kinds of marks of a picture with these lanes.
abbrev pub kinds_of : Scale → List Lane → Table → Recording → Kinds
kinds_of scale lanes table trace = record {
  messages = has_messages (counts_of scale trace);
  garbled = has_garbled (counts_of scale trace);
  overlap_bands = has_overlap_bands scale trace.list;
  unobserved = goes_behind scale trace.horizon;
  gaps = has_gaps scale table trace lanes;
  intervals = has_timed scale table trace Intervals lanes;
  offsets = has_timed scale table trace Offsets lanes;
  thin = has_thin scale trace.list;
}
