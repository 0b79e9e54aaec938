-- What follows of the definitions. The contracts of `laws` say that each of these holds.
use Rattle.std.specs.Prelude.{◌≡◌, ◌↔◌, ℕ, ◌+◌, ◌-◌, ◌*◌, ◌<◌, ◌≤◌, ◌⊎◌, false, true, IsTrue, List, [], ◌∷◌, length, filter, ⊤}
use Rattle.std.specs.List.{AllByRecursion, count_by, flat_map, sum_by}
use Rattle.bus_strings.specs.Marking.{greatest_end}
use Rattle.bus_strings.specs.Members.{In}
use Rattle.bus_strings.specs.Messages.{Entry}
use Rattle.bus_strings.specs.Transmissions.{IsByMoment, end_of, garbled}
use Rattle.bus_table.specs.Tables.{Table}
use Rattle.bus_table.specs.Valid.{is_valid}
use Rattle.bus_trace.specs.Traces.{Recording, IsTrace}
use Rattle.bus_dump.specs.declared.lane.Lane.{Lane}
use Rattle.bus_dump.specs.Lanes.{lanes}
use Rattle.bus_pen.specs.declared.area.Area.{Area}
use Rattle.bus_pen.specs.declared.scale.Scale.{Scale}
use Rattle.bus_shapes.specs.declared.sent.Sent.{Sent}
use Rattle.bus_shapes.specs.declared.told.Told.{Told}
use Rattle.bus_pen.specs.Classes.{is_hatched}
use Rattle.bus_pen.specs.declared.measures.TheConstants.{PIXEL as pixel}
use Rattle.bus_pen.specs.Scales.{IsScale, place}
use Rattle.bus_shapes.specs.Sending.{sents}
use Rattle.bus_shapes.specs.SendingLaws.{IsToldOf}
use Rattle.bus_picture.specs.Boxes.{Box, Cluster, boxes, grown, is_narrow, members, one, cluster_of}
use Rattle.bus_picture.specs.Rows.{Row, box_area, box_class, drawn_area, overhang, shown, shows}
use Rattle.bus_picture.specs.Lanes.{is_named}
use Rattle.bus_picture.specs.Loads.{bus_bits, goes_on, up_to}
use Rattle.bus_picture.specs.Strings.{meets}
use Rattle.bus_picture.specs.TimeLines.{bus_rows, counts_of, is_shown, lanes_in, rows_of, rows_of_lanes}
use Rattle.bus_picture.specs.Marks.{head_dash, lower_dash, upper_dash}
use Rattle.bus_picture.specs.Lanes.{lane_top}
use Rattle.bus_picture.specs.declared.measures.TheConstants.{BREACH_LINE as breach_line, INTERVAL_LINE as interval_line}
use Rattle.bus_picture.specs.declared.measures.TheConstants.{PLOT_TOP as plot_top, ROW_HEIGHT as row_height}
use Rattle.bus_picture.specs.Measures.{interval_depth, interval_rise, words_depth}

-- ---- boxes
-- The transmissions of the boxes of a row, one after the other, are those that the row shows, in order: so each of these is in exactly one
-- box.
abbrev pub BoxesHoldRows : Type 0
BoxesHoldRows =
    (scale : Scale) (row : Row) (list : List Entry) → flat_map members (boxes scale (shown scale row list)) ≡ shown scale row list

-- Each transmission of a box is an entry of the list, and the box is hatched exactly where that is garbled.
abbrev pub HatchedAreGarbled : Type 0
HatchedAreGarbled =
    (scale : Scale) (row : Row) (list : List Entry) (box : Box) (x : Sent) → In box (boxes scale (shown scale row list))
    → In x (members box) → IsToldOf list x × ((is_hatched (box_class scale row (cluster_of box)) ≡ true) ↔ (garbled list x.at ≡ true))

-- A box goes from the begin of its first transmission, before which none of it begins, to the end of one of them, behind which none of it
-- ends; and it counts them.
pub record HoldsIts (box : Box) : Type 0 where
  pub within : AllByRecursion (λ (x : Sent). (box.first.moment ≤ x.moment) × (x.end ≤ (cluster_of box).end)) (members box)
  pub last : Sent
  pub held : In last (members box)
  pub ends : last.end ≡ (cluster_of box).end
  pub count : (cluster_of box).count ≡ length (members box)

-- Each box of a row of a list in order does so.
abbrev pub BoxesHoldTheirs : Type 0
BoxesHoldTheirs =
    (scale : Scale) (row : Row) (list : List Entry) (box : Box) → IsByMoment list → In box (boxes scale (shown scale row list))
    → HoldsIts box

-- Less than a pixel lies between the end of what a box has so far and the begin of its next transmission.
abbrev pub AreClose : Scale → Cluster → List Sent → Type 0
AreClose scale cluster [] = ⊤
AreClose scale cluster (x ∷ xs) = (place scale x.moment < place scale cluster.end + pixel) × AreClose scale (grown cluster x) xs

-- No box of a row covers quiet between two transmissions that takes a pixel.
abbrev pub BoxesCoverNoQuiet : Type 0
BoxesCoverNoQuiet =
    (scale : Scale) (row : Row) (list : List Entry) (box : Box) → In box (boxes scale (shown scale row list))
    → AreClose scale (one box.first) box.others

-- What an area covers with a stroke that reaches so far beyond each of its edges.
abbrev pub with_stroke : ℕ → Area → Area
with_stroke n area = record { left = area.left - n; top = area.top - n; width = area.width + 2 * n; height = area.height + 2 * n }

-- A box covers with its stroke what it has of the scale, hatched or not, and nothing beyond: so no stroke covers quiet.
abbrev pub StrokesLieWithin : Type 0
StrokesLieWithin =
    (scale : Scale) (row : Row) (box : Box) → IsScale scale
    → with_stroke (overhang row (is_narrow scale (cluster_of box).first)) (drawn_area scale row (cluster_of box))
    ≡ box_area scale row (cluster_of box)

-- ---- rows
-- All rows that are drawn after one of what is garbled lie below it. Boxes of the same row and timers may lie over a box.
abbrev pub AreUncovered : List Row → Type 0
AreUncovered [] = ⊤
AreUncovered (row ∷ rows) =
    (row.garbled ≡ true → AllByRecursion (λ (next : Row). row.top + row_height ≤ next.top) rows) × AreUncovered rows

-- All rows of a time line are so.
abbrev pub GarbledAreUncovered : Type 0
GarbledAreUncovered = (lanes : List Lane) → AreUncovered (rows_of lanes)

-- A box lies within its row.
abbrev pub BoxesLieInRows : Type 0
BoxesLieInRows =
    (scale : Scale) (row : Row) (cluster : Cluster)
    → (row.top ≤ (box_area scale row cluster).top)
    × ((box_area scale row cluster).top + (box_area scale row cluster).height ≤ row.top + row_height)

-- Of two areas one lies above the other.
abbrev pub AreApart : Area → Area → Type 0
AreApart a b = (a.top + a.height ≤ b.top) ⊎ (b.top + b.height ≤ a.top)

-- No dash of the line at a breach or at a fault lies over a box: not that above the plot, nor those of the bus, whose upper edge is that of
-- the plot, and of lane k, whose upper edge lies k + 1 rows below that.
pub record HidesNone (box : Area) (left width : ℕ) : Type 0 where
  pub head : AreApart (head_dash left) box
  pub upper : (k : ℕ) → AreApart (upper_dash left width (plot_top + row_height * k)) box
  pub lower : (k : ℕ) → AreApart (lower_dash left width (plot_top + row_height * k)) box

-- Neither the line at a breach or at a fault nor its words above the plot hide a box, in no time line: these stand above all boxes.
abbrev pub BreachesHideNoBox : Type 0
BreachesHideNoBox =
    (scale : Scale) (lanes : List Lane) (row : Row) (cluster : Cluster) (left width : ℕ) → In row (rows_of lanes)
    → HidesNone (box_area scale row cluster) left width × (breach_line + words_depth ≤ (box_area scale row cluster).top)

-- The words of transmit intervals, which stand in the first lane alone, lie above or below each box.
abbrev pub IntervalWordsHideNoBox : Type 0
IntervalWordsHideNoBox =
    (scale : Scale) (lanes : List Lane) (row : Row) (cluster : Cluster) → In row (rows_of lanes)
    → ((box_area scale row cluster).top + (box_area scale row cluster).height ≤ lane_top 0 + interval_line - interval_rise)
    ⊎ (lane_top 0 + interval_line + interval_depth ≤ (box_area scale row cluster).top)

-- How many of these rows show a transmission.
abbrev pub rows_with : Scale → List Row → Sent → ℕ
rows_with scale rows x = count_by (λ (row : Row). shows scale row x) rows

-- Each transmission that meets the window is shown by exactly one row of the bus.
abbrev pub EachIsOnTheBus : Type 0
EachIsOnTheBus = (scale : Scale) (x : Sent) → is_shown scale x ≡ true → rows_with scale bus_rows x ≡ 1

-- Each transmission of a trace that meets the window is shown by exactly one row of all lanes that are drawn.
abbrev pub EachIsInOneLane : Type 0
EachIsInOneLane =
    (scale : Scale) (told : Told) (table : Table) (trace : Recording) (x : Sent) → IsTrue (is_valid table) → IsTrace trace
    → In x (sents trace.list) → is_shown scale x ≡ true → rows_with scale (rows_of_lanes (lanes_in scale told table trace.list)) x ≡ 1

-- ---- lanes
-- The terminal of a lane sends nothing in the window, and the first breach doesn't name it.
pub record IsSilent (scale : Scale) (told : Told) (list : List Entry) (lane : Lane) : Type 0 where
  pub sends : (x : Entry) → In x list → x.terminal ≡ lane.terminal → meets scale x.moment (end_of x) ≡ false
  pub unnamed : is_named told lane.terminal ≡ false

-- Each lane that isn't drawn is such a one.
abbrev pub LeftOutAreSilent : Type 0
LeftOutAreSilent =
    (scale : Scale) (told : Told) (table : Table) (list : List Entry) (lane : Lane) → In lane (lanes table list)
    → In lane (lanes_in scale told table list) ⊎ IsSilent scale told list lane

-- ---- counts
-- How many transmissions the boxes of rows have.
abbrev pub in_boxes : Scale → List Entry → List Row → ℕ
in_boxes scale list rows = sum_by (λ (row : Row). length (flat_map members (boxes scale (shown scale row list)))) rows

-- What is counted above the plot are the transmissions of the boxes of these rows, and those of the garbled rows among them.
pub record AreCounted (scale : Scale) (trace : Recording) (rows : List Row) : Type 0 where
  pub all : (counts_of scale trace).shown ≡ in_boxes scale trace.list rows
  pub hurt : (counts_of scale trace).garbled ≡ in_boxes scale trace.list (filter (λ (row : Row). row.garbled) rows)

-- The counts are those of the boxes of the bus.
abbrev pub BusIsCounted : Type 0
BusIsCounted = (scale : Scale) (trace : Recording) → AreCounted scale trace bus_rows

-- The counts are those of the boxes of all lanes that are drawn.
abbrev pub LanesAreCounted : Type 0
LanesAreCounted =
    (scale : Scale) (told : Told) (table : Table) (trace : Recording) → IsTrue (is_valid table) → IsTrace trace
    → AreCounted scale trace (rows_of_lanes (lanes_in scale told table trace.list))

-- Of a scale no more bit times have carrier than it has, so that the load of the bus doesn't pass 100 %.
abbrev pub LoadIsAShare : Type 0
LoadIsAShare = (scale : Scale) (list : List Entry) → bus_bits scale list ≤ scale.to - scale.from

-- Behind the last end of a list nothing is counted: the load up to there has the bit times of that of the scale.
abbrev pub TailsAreQuiet : Type 0
TailsAreQuiet =
    (scale : Scale) (list : List Entry) → goes_on scale (greatest_end list) ≡ true
    → bus_bits (up_to scale (greatest_end list)) list ≡ bus_bits scale list
