-- How much room a table leaves by each rule of the margins within bounds: a bar for each, as long as what there is, with a stroke at what
-- the rule needs of it. Each has a scale of its own.
use Rattle.std.specs.Prelude.{ℕ, ◌+◌, ◌-◌, ◌*◌, ◌^◌, Bool, nat_lt, min, max, List, [], ◌++◌, codes, decimal, Option, Some, None, pos, ◌-ℤ◌}
use Rattle.std.specs.Fmt.{signed_decimal}
use Rattle.bus_bounds.specs.Bounds.{Bounds}
use Rattle.bus_table.specs.declared.mode.Mode.{Mode}
use Rattle.bus_table.specs.declared.mode.Mode.TheVariants.{Aperiodic, Periodic}
use Rattle.bus_table.specs.Tables.{Table}
use Rattle.bus_margins.specs.declared.room.Room.{Room as AperiodicRoom}
use Rattle.bus_margins.specs.declared.room.Rooms.{Rooms as AperiodicRooms}
use Rattle.bus_margins.specs.Margins as aperiodic_margins
use Rattle.bus_margins_periodic.specs.declared.room.Room.{Room as PeriodicRoom}
use Rattle.bus_margins_periodic.specs.declared.room.Rooms.{Rooms as PeriodicRooms}
use Rattle.bus_margins_periodic.specs.Margins as periodic_margins
use Rattle.bus_pen.specs.declared.area.Area.{Area}
use Rattle.bus_pen.specs.declared.class.Class.TheVariants.{Counts, Note}
use Rattle.bus_pen.specs.declared.scale.Scale.{Scale}
use Rattle.bus_pen.specs.Scales.{place}
use Rattle.bus_pen.specs.Shapes.{words_text}
use Rattle.bus_page.specs.Bars.{paint_of, words_class}
use Rattle.bus_page.specs.Heads.{section_text}
use Rattle.bus_page.specs.Messages.{area_of}
use Rattle.bus_page.specs.declared.measures.TheConstants.{BAR_HEIGHT as bar_height, BAR_LINE as bar_line, BESIDE_BAR as beside_bar}
use Rattle.bus_page.specs.declared.measures.TheConstants.{ROW_HEIGHT as row_height, ROWS_TOP as rows_top, RULES_LEFT as rules_left}
use Rattle.bus_page.specs.declared.measures.TheConstants.{RULES_WIDTH as rules_width}
use Rattle.bus_page.specs.Paints.{Need, painted, picture_end, picture_front, plain}
pub use Rattle.bus_page.specs.declared.room.Span.{Span}

-- ---- what a rule needs and what there is, in nanoseconds, of a table of either mode
abbrev pub aperiodic_span : Option AperiodicRoom → Option Span
aperiodic_span None = None
aperiodic_span (Some room) = Some (record { need = room.need; have = room.have })

abbrev pub periodic_span : Option PeriodicRoom → Option Span
periodic_span None = None
periodic_span (Some room) = Some (record { need = room.need; have = room.have })

-- ---- a row
-- From nothing to the greater of both, and at least to 1.
abbrev pub span_scale : Span → Scale
span_scale span = record { from = 0; to = min (max (max span.need span.have) 1) (2 ^ 40); left = rules_left; width = rules_width }

-- Whether there is less than the rule needs.
abbrev pub is_short : Span → Bool
is_short span = nat_lt span.have span.need

-- Both, in words.
abbrev pub span_words : Span → List ℕ
span_words span = codes "needs " ++ decimal span.need ++ codes " ns of " ++ decimal span.have ++ codes " ns"

-- The room, which is below 0 where there is less than the rule needs.
abbrev pub nanoseconds_word : Span → List ℕ
nanoseconds_word span = signed_decimal (pos span.have -ℤ pos span.need)

abbrev pub room_words : Span → List ℕ
room_words span = codes "room " ++ nanoseconds_word span ++ codes " ns"

-- What there is as a bar.
abbrev pub have_area : Scale → (top : ℕ) → Span → Area
have_area scale top span = area_of scale 0 span.have top bar_height

abbrev pub have_text : (top : ℕ) → Span → List ℕ
have_text top span = painted (paint_of (is_short span)) (have_area (span_scale span) top span) (span_words span)

-- What the rule needs as a stroke.
abbrev pub need_area : Scale → (top : ℕ) → Span → Area
need_area scale top span = record { left = place scale span.need; top = top; width = 20; height = bar_height + 40 }

abbrev pub need_text : (top : ℕ) → Span → List ℕ
need_text top span = plain Need (need_area (span_scale span) top span)

-- The room behind the bar.
abbrev pub behind_text : (top : ℕ) → Span → List ℕ
behind_text top span = words_text (words_class (is_short span)) (rules_left + rules_width + beside_bar) (top + bar_line) (room_words span)

abbrev pub span_text : (top : ℕ) → Span → List ℕ
span_text top span = have_text top span ++ need_text top span ++ behind_text top span

-- A bar, or that there are no terminals of which the rule speaks.
abbrev pub told_text : (top : ℕ) → Option Span → List ℕ
told_text top None = words_text Note rules_left (top + bar_line) (codes "speaks of no terminal of this table")
told_text top (Some span) = span_text top span

-- The row of a rule of this name, by the number of rows above it.
abbrev pub name_text : (top : ℕ) → List ℕ → List ℕ
name_text top name = words_text Counts (rules_left - beside_bar) (top + bar_line) name

abbrev pub rule_text : (above : ℕ) → List ℕ → Option Span → List ℕ
rule_text above name span = name_text (rows_top + row_height * above) name ++ told_text (rows_top + row_height * above) span

-- ---- the pictures
-- The rules of an aperiodic table, each by its word in `margins`.
abbrev pub aperiodic_rows : AperiodicRooms → List ℕ
aperiodic_rows rooms =
    rule_text 0 (codes "whole") (aperiodic_span rooms.whole) ++ rule_text 1 (codes "drop") (aperiodic_span rooms.drop)
    ++ rule_text 2 (codes "turns") (aperiodic_span rooms.turns) ++ rule_text 3 (codes "opening") (aperiodic_span rooms.opening)
    ++ rule_text 4 (codes "waiting") (aperiodic_span rooms.waiting) ++ rule_text 5 (codes "joining") (aperiodic_span rooms.joining)
    ++ rule_text 6 (codes "interval") (aperiodic_span rooms.interval) ++ rule_text 7 (codes "cycle") (aperiodic_span rooms.cycle)

-- Those of a periodic table.
abbrev pub periodic_rows : PeriodicRooms → List ℕ
periodic_rows rooms =
    rule_text 0 (codes "hearing") (periodic_span rooms.hearing) ++ rule_text 1 (codes "sync") (periodic_span rooms.sync)
    ++ rule_text 2 (codes "order") (periodic_span rooms.order) ++ rule_text 3 (codes "begin") (periodic_span rooms.begin)

-- The beginning of a picture of so many rows.
abbrev pub rows_front : (count : ℕ) → List ℕ
rows_front count = picture_front (rows_top + row_height * count) (codes "How much room each rule leaves")

-- The picture of a table of each mode.
abbrev pub aperiodic_picture : AperiodicRooms → List ℕ
aperiodic_picture rooms = rows_front 8 ++ aperiodic_rows rooms ++ picture_end

abbrev pub periodic_picture : PeriodicRooms → List ℕ
periodic_picture rooms = rows_front 4 ++ periodic_rows rooms ++ picture_end

abbrev pub mode_rooms : Mode → Bounds → Table → List ℕ
mode_rooms Aperiodic bounds table = aperiodic_picture (aperiodic_margins.margins_of bounds table).rooms
mode_rooms Periodic bounds table = periodic_picture (periodic_margins.margins_of bounds table).rooms

-- Of a periodic table, which level needs the rules that have bars.
abbrev pub leading_words : Mode → List ℕ
leading_words Aperiodic = []
leading_words Periodic =
    codes "Level <code>turns</code> needs all these; level <code>leads</code> needs <code>hearing</code>, and others without bars. "

-- Under its heading, with what its bars mean.
abbrev pub rooms_front : Mode → List ℕ
rooms_front mode =
    section_text (codes "Which rule limits the margins")
    ++ codes "<p>The bar of a rule of <code>margins</code> is what there is, and the stroke what it needs of that, "
    ++ codes "where it leaves the least room; a rule that lacks stands out. Each bar has a scale of its own. " ++ leading_words mode
    ++ codes "What each asks stands in <code>docs/FORMATS.md</code> of the project's folder.</p>\n"

abbrev pub rooms_section : Bounds → Table → List ℕ
rooms_section bounds table = rooms_front table.mode ++ mode_rooms table.mode bounds table

-- The same where bounds are asked for.
abbrev pub rooms_text : Option Bounds → Table → List ℕ
rooms_text None table = []
rooms_text (Some bounds) table = rooms_section bounds table
