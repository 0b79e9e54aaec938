-- What the legend lists. The contract of `laws::legend_lists_what_is_drawn` says that this law holds.
use Rattle.std.specs.Prelude.{◌≡◌, ◌≢◌, ◌↔◌, ℕ, Bool, true, false, ◌⊎◌, List, [], take, slice_get, Some, None}
use Rattle.bus_strings.specs.Members.{In}
use Rattle.bus_table.specs.Fits.{sender_of}
use Rattle.bus_table.specs.Tables.{Sender, Table}
use Rattle.bus_trace.specs.Traces.{Recording}
use Rattle.bus_audit.specs.Breaches.{held}
use Rattle.bus_dump.specs.declared.lane.Lane.{Lane}
use Rattle.bus_pen.specs.declared.scale.Scale.{Scale}
use Rattle.bus_shapes.specs.declared.sent.Sent.{Sent}
use Rattle.bus_shapes.specs.Sending.{sents}
use Rattle.bus_picture.specs.Boxes.{Box, boxes, is_thin, cluster_of}
use Rattle.bus_picture.specs.Intervals.{last_start}
use Rattle.bus_picture.specs.Kinds.{Kinds, kinds_of}
use Rattle.bus_picture.specs.Legends.{legend_garbled, legend_gaps, legend_horizon, legend_intervals, legend_message, legend_offsets}
use Rattle.bus_picture.specs.Legends.{legend_shares, legend_overlap_band}
use Rattle.bus_picture.specs.declared.measures.TheConstants.{PLOT_TOP as plot_top}
use Rattle.bus_picture.specs.Offsets.{offsets_text}
use Rattle.bus_picture.specs.Rows.{Row, shown}
use Rattle.bus_picture.specs.TimeLines.{rows_of, unobserved_text}
use Rattle.bus_picture.specs.Timers.{LaneTimings, interval_behind, is_near, last_lane_gap, line_before, sync_before, terminal_gap}
use Rattle.bus_picture.specs.Timers.{timings_of}
use Rattle.bus_picture.specs.OverlapBands.{overlap_bands_text}

-- A box of a row that is drawn of these lanes.
pub record HasBox (scale : Scale) (lanes : List Lane) (trace : Recording) (of : Row → Box → Type 0) : Type 0 where
  pub row : Row
  pub box : Box
  pub drawn : In row (rows_of lanes)
  pub there : In box (boxes scale (shown scale row trace.list))
  pub is : of row box

-- The row of the box is that of garbled transmissions, or that of the others.
abbrev pub IsMarked : Bool → Row → Box → Type 0
IsMarked garbled row box = row.garbled ≡ garbled

-- The first transmission of the box takes less than a pixel, so that the height of the box goes by how busy its time is.
abbrev pub IsThin : Scale → Row → Box → Type 0
IsThin scale row box = is_thin scale (cluster_of box).first ≡ true

-- Timers are drawn, the terminal of lane k is a sender, and this holds of its timings, which are the same all along the lane.
pub record HasTimer (scale : Scale) (lanes : List Lane) (table : Table) (trace : Recording) (of : LaneTimings → Sender → Type 0)
    : Type 0 where
  pub k : ℕ
  pub lane : Lane
  pub sender : Sender
  pub near : is_near scale table.ti ≡ true
  pub drawn : slice_get lanes k ≡ Some lane
  pub sends : sender_of table.senders lane.terminal ≡ Some sender
  pub is : of (timings_of table trace.horizon k lane.terminal sender.tg) sender

-- The line of a terminal gap of a sender is written, before a transmission or behind all.
abbrev pub WritesGap : Scale → Recording → LaneTimings → Sender → Type 0
WritesGap scale trace timings sender =
    ((x : Sent) × In x (sents trace.list) × (line_before scale trace.list timings x ≢ []))
    ⊎ (terminal_gap scale timings.top (last_lane_gap trace.list timings) ≢ [])

-- The line of a synchronization gap is written on the bus, before a transmission.
pub record WritesSync (scale : Scale) (table : Table) (trace : Recording) : Type 0 where
  pub sent : Sent
  pub there : In sent (sents trace.list)
  pub near : is_near scale table.ti ≡ true
  pub line : sync_before scale plot_top table.sg sent ≢ []

-- The line of a transmit interval of a sender is written, up to one of its starts or behind all.
abbrev pub WritesInterval : Scale → Recording → LaneTimings → Sender → Type 0
WritesInterval scale trace timings sender =
    ((x : Sent) × In x (sents trace.list) × (x.terminal ≡ timings.terminal)
    × (interval_behind scale timings (last_start timings.terminal (take x.at trace.list)) (Some x.moment) ≢ []))
    ⊎ (interval_behind scale timings (last_start timings.terminal trace.list) None ≢ [])

-- Ticks of the offset of a sender are written.
abbrev pub WritesTicks : Scale → Table → Recording → LaneTimings → Sender → Type 0
WritesTicks scale table trace timings sender =
    offsets_text table.mode scale timings.top table.ti sender.at (held trace.holds timings.terminal) ≢ []

-- What the legend of a picture with these lanes and this lower edge of the plot writes at an upper edge: of each kind of marks something
-- exactly where the picture has one.
pub record ListsDrawn (scale : Scale) (lanes : List Lane) (table : Table) (trace : Recording) (bottom top : ℕ) (kinds : Kinds) : Type 0
  where
    pub messages : (legend_message kinds.messages top ≢ []) ↔ HasBox scale lanes trace (IsMarked false)
    pub garbled : (legend_garbled kinds.garbled top ≢ []) ↔ HasBox scale lanes trace (IsMarked true)
    pub overlap_bands : (legend_overlap_band kinds.overlap_bands top ≢ []) ↔ (overlap_bands_text scale bottom trace.list ≢ [])
    pub unobserved : (legend_horizon kinds.unobserved top ≢ []) ↔ (unobserved_text scale bottom trace.horizon ≢ [])
    pub gaps : (legend_gaps kinds.gaps top ≢ [])
        ↔ (HasTimer scale lanes table trace (WritesGap scale trace) ⊎ WritesSync scale table trace)
    pub intervals : (legend_intervals kinds.intervals top ≢ []) ↔ HasTimer scale lanes table trace (WritesInterval scale trace)
    pub offsets : (legend_offsets kinds.offsets top ≢ []) ↔ HasTimer scale lanes table trace (WritesTicks scale table trace)
    pub thin : (legend_shares kinds.thin top ≢ []) ↔ HasBox scale lanes trace (IsThin scale)

-- The legend of each time line does so.
abbrev pub LegendListsWhatIsDrawn : Type 0
LegendListsWhatIsDrawn =
    (scale : Scale) (lanes : List Lane) (table : Table) (trace : Recording) (bottom top : ℕ)
    → ListsDrawn scale lanes table trace bottom top (kinds_of scale lanes table trace)
