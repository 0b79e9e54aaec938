-- The shortest above the longest cycle of an accepted aperiodic table, on one axis, each message joined with itself.
use Rattle.std.specs.Prelude.{ℕ, ◌+◌, ◌-◌, List, ◌++◌, codes, decimal}
use Rattle.std.specs.List.{flat_map}
use Rattle.bus_say.specs.Times.{time_text}
use Rattle.bus_pen.specs.declared.area.Area.{Area}
use Rattle.bus_pen.specs.declared.class.Class.{Class}
use Rattle.bus_pen.specs.declared.class.Class.TheVariants.{Detail, GapWords, IntervalWords}
use Rattle.bus_pen.specs.declared.scale.Scale.{Scale}
use Rattle.bus_pen.specs.Scales.{place}
use Rattle.bus_pen.specs.Shapes.{words_text}
use Rattle.bus_page.specs.declared.measures.TheConstants.{PLOT_LEFT as plot_left, PLOT_WIDTH as plot_width, BOX_HEIGHT as box_height}
use Rattle.bus_page.specs.declared.measures.TheConstants.{SHORT_TOP as short_top, LONG_TOP as long_top}
use Rattle.bus_page.specs.Messages.{axes_text, gap_text, lane_text, stretch_text}
use Rattle.bus_page.specs.Paints.{Interval, Spare, painted, picture_end, picture_front, plain}
pub use Rattle.bus_page.specs.declared.cycles.Times.{Times}
use Rattle.bus_page.specs.Turns.{Turn}

-- ---- the scale
-- From the beginning of a cycle to the end of the longest.
abbrev pub scale_of : ℕ → Scale
scale_of most = record { from = 0; to = most; left = plot_left; width = plot_width }

-- A turn in the shortest cycle, and in the longest.
abbrev pub short_text : Scale → Turn → List ℕ
short_text scale turn = stretch_text scale short_top turn.number turn.short

abbrev pub long_text : Scale → Turn → List ℕ
long_text scale turn = stretch_text scale long_top turn.number turn.long

-- ---- joins
-- A corner of a join.
abbrev pub corner : (left top : ℕ) → List ℕ
corner left top = decimal left ++ codes " " ++ decimal top

-- The corners of a join below the shortest cycle, and those above the longest.
abbrev pub upper_corners : Scale → Turn → List ℕ
upper_corners scale turn =
    corner (place scale turn.short.from) (short_top + box_height) ++ codes "L"
    ++ corner (place scale turn.short.to) (short_top + box_height)

abbrev pub lower_corners : Scale → Turn → List ℕ
lower_corners scale turn = corner (place scale turn.long.to) long_top ++ codes "L" ++ corner (place scale turn.long.from) long_top

-- The join between the boxes of a turn.
abbrev pub join_text : Scale → Turn → List ℕ
join_text scale turn =
    codes "<path class=\"join\" d=\"M" ++ upper_corners scale turn ++ codes "L" ++ lower_corners scale turn ++ codes "Z\"/>\n"

-- The spare: from the end of the transmit interval to that of the shortest cycle, above that.
abbrev pub spare_area : Scale → (ti least : ℕ) → Area
spare_area scale ti least = record { left = place scale ti; top = 270; width = place scale least - place scale ti; height = 50 }

abbrev pub spare_text : Scale → (ti least : ℕ) → List ℕ
spare_text scale ti least = painted Spare (spare_area scale ti least) (codes "spare " ++ time_text (least - ti))

-- Words and a number behind them.
abbrev pub number_words : Class → (left line : ℕ) → List ℕ → ℕ → List ℕ
number_words class left line name number = words_text class left line (name ++ decimal number)

-- The transmit interval: a line behind both cycles, and its words.
abbrev pub interval_text : Scale → ℕ → List ℕ
interval_text scale ti =
    plain Interval (record { left = place scale ti; top = 270; width = 15; height = 1320 })
    ++ number_words IntervalWords (place scale ti - 60) 900 (codes "TI ") ti

-- The words of the spare, before it; of the synchronization gap; and of how much longer the longest cycle is.
abbrev pub spare_words : Scale → (ti least : ℕ) → List ℕ
spare_words scale ti least = number_words IntervalWords (place scale ti - 60) 315 (codes "spare ") (least - ti)

abbrev pub gap_words : Scale → ℕ → List ℕ
gap_words scale sg = number_words GapWords (place scale 0) 770 (codes "SG ") sg

abbrev pub more_words : Scale → (least most : ℕ) → List ℕ
more_words scale least most =
    words_text Detail (place scale most) (long_top - 50) (codes "up to " ++ decimal (most - least) ++ codes " more")

-- ---- the picture
-- All that lies behind the messages: the axes, the spare, the joins, and the transmit interval.
abbrev pub behind_text : Scale → Times → List Turn → List ℕ
behind_text scale times turns =
    axes_text scale 1430 ++ spare_text scale times.ti times.least ++ flat_map (join_text scale) turns ++ interval_text scale times.ti

-- The shortest cycle: its name, its synchronization gap, and its turns.
abbrev pub short_lane : Scale → Times → List Turn → List ℕ
short_lane scale times turns =
    lane_text short_top (codes "shortest") times.least ++ gap_text scale short_top 0 times.sg ++ flat_map (short_text scale) turns

-- The longest cycle.
abbrev pub long_lane : Scale → Times → List Turn → List ℕ
long_lane scale times turns =
    lane_text long_top (codes "longest") times.most ++ gap_text scale long_top 0 times.sg ++ flat_map (long_text scale) turns

-- The words between the cycles.
abbrev pub marks_text : Scale → Times → List ℕ
marks_text scale times =
    spare_words scale times.ti times.least ++ gap_words scale times.sg ++ more_words scale times.least times.most

-- The picture of these turns of a table with these times.
abbrev pub cycles_text : Times → List Turn → List ℕ
cycles_text times turns =
    picture_front 1850 (codes "The shortest and the longest cycle") ++ behind_text (scale_of times.most) times turns
    ++ short_lane (scale_of times.most) times turns ++ long_lane (scale_of times.most) times turns ++ marks_text (scale_of times.most) times
    ++ picture_end
