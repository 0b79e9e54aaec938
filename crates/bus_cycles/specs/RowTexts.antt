-- The text of a row. A unit is a tenth of a pixel.
use Rattle.std.specs.Prelude.{ℕ, ◌+◌, ◌-◌, ◌*◌, ◌/◌, ◌%◌, Bool, true, false, not, ◌&&◌, ◌==◌}
use Rattle.std.specs.Prelude.{nat_le, nat_lt, max, List, [], ◌∷◌, ◌++◌, codes, decimal, slice_index_or, if◌then◌else◌}
use Rattle.std.specs.List.{flat_map, list_any}
use Rattle.bus_pen.specs.Classes.{digits_class}
use Rattle.bus_pen.specs.declared.class.Class.{Class}
use Rattle.bus_pen.specs.declared.class.Class.TheVariants.{Detail, Garbled, GarbledNarrow, Other, Small, Unobserved, Wordstring}
use Rattle.bus_shapes.specs.declared.sent.Sent.{Sent}
use Rattle.bus_shapes.specs.Sayings.{sent_words}
use Rattle.bus_pen.specs.Scales.{place}
use Rattle.bus_pen.specs.declared.area.Area.{Area}
use Rattle.bus_pen.specs.Shapes.{titled_text, words_text}
use Rattle.bus_pen.specs.declared.measures.TheConstants as shapes
pub use Rattle.bus_cycles.specs.declared.areas.Shaded.{Shaded}
use Rattle.bus_cycles.specs.Cuts.{is_cut_before, is_cut_behind, is_whole}
use Rattle.bus_cycles.specs.Rows.{Extent, Row, extent_of}
use Rattle.bus_cycles.specs.Pages.{Page, top_of}
use Rattle.bus_cycles.specs.Surveys.{is_drawn, last_end_of}
use Rattle.bus_cycles.specs.declared.measures.TheConstants.{BEGINS_RIGHT as begins_right, BOX_BELOW as box_below, ENDS_LEFT as ends_left}
use Rattle.bus_cycles.specs.declared.measures.TheConstants.{LONG_NUMBER as long_number, MIDDLE_LINE as middle_line}
use Rattle.bus_cycles.specs.declared.measures.TheConstants.{MIDDLE_NUMBER as middle_number, NARROW_BOX as narrow_box}
use Rattle.bus_cycles.specs.declared.measures.TheConstants.{OPEN_LEFT as open_left, OPEN_RIGHT as open_right}
use Rattle.bus_cycles.specs.declared.measures.TheConstants.{OPEN_WIDTH as open_width, SHORT_NUMBER as short_number}
use Rattle.bus_cycles.specs.declared.measures.TheConstants.{SLOT_BELOW as slot_below}
use Rattle.bus_cycles.specs.Measures.{slots}

-- ---- where a transmission is
-- The place of a moment in a row that began at this moment, on a whole pixel.
abbrev pub pixel : Page → ℕ → ℕ → ℕ
pixel page begin t = place page.scale (t + page.cycle.origin_offset - begin) / shapes.PIXEL * shapes.PIXEL

-- The left edge of a transmission in a row that began at this moment.
abbrev pub left_of : Page → ℕ → Sent → ℕ
left_of page begin sent = pixel page begin sent.moment

-- Its right edge, at least a pixel behind the left one.
abbrev pub right_of : Page → ℕ → Sent → ℕ
right_of page begin sent = max (pixel page begin sent.end) (left_of page begin sent + shapes.PIXEL)

-- The lane of its terminal.
abbrev pub lane_in : Page → Sent → ℕ
lane_in page sent = slice_index_or page.lanes sent.terminal 0

-- Whether one of these transmissions, of a row that began at this moment, has this shade and reaches as far.
abbrev pub is_reached : Page → ℕ → List Shaded → ℕ → ℕ → Bool
is_reached page begin earlier tone right = list_any (λ y. y.shade == tone && nat_le right (right_of page begin y.sent)) earlier

-- Whether a slot is free behind these where a box begins: none of them reaches further in it.
abbrev pub is_free : Page → ℕ → List Shaded → ℕ → ℕ → Bool
is_free page begin earlier left slot = not (is_reached page begin earlier (2 + slot) (left + 1))

-- The first that is free of a slot and the two below it, where the highest is below the lowest; the slot itself where none is.
abbrev pub free_slot : (ℕ → Bool) → ℕ → ℕ
free_slot free own =
    if free own then own
    else (if free ((own + 1) % slots) then (own + 1) % slots else (if free ((own + 2) % slots) then (own + 2) % slots else own))

-- The slot of a garbled transmission behind these: by its terminal's lane, so that a terminal mostly keeps its slot and neighbours have
-- different ones, or another where that one isn't free.
abbrev pub slot_of : Page → ℕ → List Shaded → Sent → ℕ
slot_of page begin earlier sent = free_slot (is_free page begin earlier (left_of page begin sent)) (lane_in page sent % slots)

-- Its shade: where it is garbled, by its slot, and else by its terminal's lane.
abbrev pub shade : Page → ℕ → List Shaded → Sent → ℕ
shade page begin earlier sent = if sent.garbled then 2 + slot_of page begin earlier sent else lane_in page sent % 2

-- A transmission behind these, with its shade.
abbrev pub shaded : Page → ℕ → List Shaded → Sent → Shaded
shaded page begin earlier sent = record { sent = sent; shade = shade page begin earlier sent }

-- Transmissions of a row behind these, each with its shade.
abbrev pub all_shaded : Page → ℕ → List Shaded → List Sent → List Shaded
all_shaded page begin earlier [] = earlier
all_shaded page begin earlier (sent ∷ sents) = all_shaded page begin (earlier ++ shaded page begin earlier sent ∷ []) sents

-- What a garbled one of this width is drawn as.
abbrev pub garbled_class : ℕ → Class
garbled_class width = if nat_lt width narrow_box then GarbledNarrow else Garbled

-- What a transmission of this width and shade is drawn as: a garbled one is hatched.
abbrev pub class_of : ℕ → ℕ → Class
class_of width shade = if shade == 0 then Other else (if shade == 1 then Wordstring else garbled_class width)

-- The height of a slot.
abbrev pub slot_height : Page → ℕ
slot_height page = (page.row_height - 2 * box_below) / slots

-- How far below the upper edge of its row a transmission of this shade begins: a garbled one in its slot.
abbrev pub below_top : Page → ℕ → ℕ
below_top page shade = if nat_lt shade 2 then box_below else box_below + slot_height page * (shade - 2) + slot_below

-- Its height.
abbrev pub height_of : Page → ℕ → ℕ
height_of page shade = if nat_lt shade 2 then page.row_height - 2 * box_below else slot_height page - 2 * slot_below

-- The area of a transmission in its row.
abbrev pub area_of : Page → ℕ → ℕ → Shaded → Area
area_of page row begin x = record {
  left = left_of page begin x.sent;
  top = top_of page row + below_top page x.shade;
  width = right_of page begin x.sent - left_of page begin x.sent;
  height = height_of page x.shade;
}

-- ---- boxes
-- How wide the number of a terminal is, with a character around it.
abbrev pub number_width : ℕ → ℕ
number_width terminal = if nat_lt terminal 10 then short_number else (if nat_lt terminal 100 then middle_number else long_number)

-- Whether a box has room for the number of its terminal.
abbrev pub has_room : Area → Sent → Bool
has_room area sent = nat_le (number_width sent.terminal) area.width

-- The number of its terminal, in the middle of its box.
abbrev pub number_text : Area → Sent → List ℕ
number_text area sent =
    if has_room area sent
    then words_text (digits_class sent.garbled) (area.left + area.width / 2) (area.top + area.height / 2 + middle_line)
    (decimal sent.terminal)
    else []

-- A transmission in an area: its box, and its number.
abbrev pub sent_text : Area → Shaded → List ℕ
sent_text area x = titled_text (class_of area.width x.shade) area (sent_words x.sent) ++ number_text area x.sent

-- A text of a row, which is left out where the row isn't drawn.
abbrev pub where_drawn : ℕ → List ℕ → List ℕ
where_drawn row text = if is_drawn row then text else []

-- Whether a transmission is left out of a row that has these: one of these has its shade and reaches as far, so that a box of its shade
-- holds its own.
abbrev pub is_left_out : Page → ℕ → List Shaded → Sent → Bool
is_left_out page begin earlier sent = is_reached page begin earlier (shade page begin earlier sent) (right_of page begin sent)

-- A picture is drawn in two walks over its rows: in the first what is plain, in the second what is garbled. Whether a transmission is drawn
-- in the walk for those that are garbled, or in that for the others.
abbrev pub is_due : Bool → Sent → Bool
is_due garbled sent = if garbled then sent.garbled else not sent.garbled

-- A text of a transmission, which is left out of the walk in which it isn't due.
abbrev pub where_due : Bool → Sent → List ℕ → List ℕ
where_due garbled sent text = if is_due garbled sent then text else []

-- What is drawn of a transmission.
abbrev pub drawing_of : Page → ℕ → ℕ → Shaded → List ℕ
drawing_of page row begin x = where_drawn row (sent_text (area_of page row begin x) x)

-- What a transmission adds, in a walk, to a row that has these.
abbrev pub box_behind : Page → Bool → ℕ → ℕ → List Shaded → Sent → List ℕ
box_behind page garbled row begin earlier sent =
    if is_left_out page begin earlier sent then []
    else where_due garbled sent (drawing_of page row begin (shaded page begin earlier sent))

-- What transmissions add to a row that has these.
abbrev pub boxes : Page → Bool → ℕ → ℕ → List Shaded → List Sent → List ℕ
boxes page garbled row begin earlier [] = []
boxes page garbled row begin earlier (sent ∷ sents) =
    box_behind page garbled row begin earlier sent ++ boxes page garbled row begin (earlier ++ shaded page begin earlier sent ∷ []) sents

-- ---- rows
-- The line of the words of a row, in its middle.
abbrev pub line_of : Page → ℕ → ℕ
line_of page row = top_of page row + page.row_height / 2 + middle_line

-- The moment at which a row begins, which may lie before the settled start, given from how long before that it is counted.
abbrev pub begin_words : ℕ → ℕ → List ℕ
begin_words origin_offset begin =
    if nat_lt begin origin_offset then codes "-" ++ decimal (origin_offset - begin) else decimal (begin - origin_offset)

-- The last end of a row in words, and whether it is cut.
abbrev pub last_end_words : Page → Extent → List ℕ
last_end_words page row =
    if is_whole page.cycle page.seen row then decimal (last_end_of page.cycle.origin_offset row)
    else codes "cut " ++ decimal (last_end_of page.cycle.origin_offset row)

-- The words of a row: its number, from 1, and the moment at which it begins at its left, its last end at its right.
abbrev pub words_of : Page → Extent → List ℕ
words_of page row =
    words_text Small shapes.LEFT_MARGIN (line_of page row.place) (decimal (row.place + 1))
    ++ words_text Detail begins_right (line_of page row.place) (begin_words page.cycle.origin_offset row.begin)
    ++ words_text Detail shapes.RIGHT_MARGIN (line_of page row.place) (last_end_words page row)

-- Where a row that is cut at its beginning is drawn open: left of its boxes.
abbrev pub before_area : Page → ℕ → Area
before_area page row = record {
  left = open_left;
  top = top_of page row + box_below;
  width = open_width;
  height = page.row_height - 2 * box_below;
}

-- Where a row that is cut at its end is drawn open begins: where what is seen ends, and right of its boxes.
abbrev pub behind_left : Page → Extent → ℕ
behind_left page row = pixel page row.begin (max row.end page.seen.to) + shapes.PIXEL

-- Where a row that is cut at its end is drawn open: from there to behind all boxes.
abbrev pub behind_area : Page → Extent → Area
behind_area page row = record {
  left = behind_left page row;
  top = top_of page row.place + box_below;
  width = open_right - behind_left page row;
  height = page.row_height - 2 * box_below;
}

-- A row that is cut at its beginning is drawn open there, with these words under the pointer.
abbrev pub before_text : Page → Extent → List ℕ
before_text page row =
    if is_cut_before page.cycle page.seen row
    then titled_text Unobserved (before_area page row.place) (codes "cut: the cycle begins at the settled start, or before the window")
    else []

-- A row that is cut at its end is drawn open there.
abbrev pub behind_text : Page → Extent → List ℕ
behind_text page row =
    if is_cut_behind page.cycle page.seen row
    then titled_text Unobserved (behind_area page row) (codes "cut: the cycle isn't over where the window or the trace ends")
    else []

-- The numbers of the first and of the last terminal of a row, right of it: where boxes have no room for numbers, these stand still.
abbrev pub ends_words : Page → Extent → List ℕ
ends_words page row =
    words_text Small ends_left (line_of page row.place) (decimal row.first ++ codes "-" ++ decimal row.last)

-- What stands at the end of a row: its words, and where it is cut.
abbrev pub closing_text : Page → Extent → List ℕ
closing_text page row = words_of page row ++ ends_words page row ++ before_text page row ++ behind_text page row

-- It stands in the walk for what is plain.
abbrev pub ending_text : Page → Bool → Extent → List ℕ
ending_text page garbled row = if garbled then [] else where_drawn row.place (closing_text page row)

-- What a walk draws of a row: its transmissions, then its words.
abbrev pub row_text : Page → Bool → Row → List ℕ
row_text page garbled row = boxes page garbled row.place row.begin [] row.sents ++ ending_text page garbled (extent_of row)

-- What a walk draws of rows.
abbrev pub walk_text : Page → Bool → List Row → List ℕ
walk_text page garbled rows = flat_map (row_text page garbled) rows

-- The rows: what is plain of all of them, then what is garbled, so that no plain box lies over a garbled one.
abbrev pub rows_text : Page → List Row → List ℕ
rows_text page rows = walk_text page false rows ++ walk_text page true rows
