-- Messages and gaps as boxes of a picture, and what stands around these: the axes, and the name of a cycle.
use Rattle.std.specs.Prelude.{ℕ, ◌+◌, ◌-◌, ◌/◌, nat_le, List, [], ◌++◌, codes, decimal, if◌then◌else◌}
use Rattle.bus_say.specs.Times.{time_text}
use Rattle.bus_pen.specs.declared.area.Area.{Area}
use Rattle.bus_pen.specs.declared.axis.Axis.{Axis}
use Rattle.bus_pen.specs.declared.axis.Unit.TheVariants.{BitTimes, Microseconds}
use Rattle.bus_pen.specs.declared.class.Class.TheVariants.{Counts, Detail, Digits, Grid, Tick}
use Rattle.bus_pen.specs.declared.scale.Scale.{Scale}
use Rattle.bus_pen.specs.Axes.{axis_text}
use Rattle.bus_pen.specs.Scales.{extent, place}
use Rattle.bus_pen.specs.Shapes.{words_text}
use Rattle.bus_page.specs.declared.measures.TheConstants.{WORDS_RIGHT as words_right, BOX_HEIGHT as box_height, BOX_LINE as box_line}
use Rattle.bus_page.specs.declared.measures.TheConstants.{GAP_BELOW as gap_below, GAP_HEIGHT as gap_height, WIDE_BOX as wide_box}
use Rattle.bus_page.specs.declared.measures.TheConstants.{NARROW_BOX as narrow_box}
use Rattle.bus_page.specs.Paints.{Gap, Sent, painted, plain}
use Rattle.bus_page.specs.Turns.{Stretch}

-- The box of what lies between two moments.
abbrev pub area_of : Scale → (from to top height : ℕ) → Area
area_of scale from to top height = record { left = place scale from; top = top; width = extent scale from to; height = height }

-- A terminal.
abbrev pub terminal_name : ℕ → List ℕ
terminal_name number = codes "T" ++ decimal number

-- From when to when.
abbrev pub moments_words : Stretch → List ℕ
moments_words stretch = codes ", from " ++ decimal stretch.from ++ codes " to " ++ decimal stretch.to

-- Who sends, from when to when.
abbrev pub sent_words : ℕ → Stretch → List ℕ
sent_words number stretch =
    terminal_name number ++ codes ": " ++ time_text (stretch.to - stretch.from) ++ moments_words stretch

-- A terminal and how many bit times.
abbrev pub both_words : (number bits : ℕ) → List ℕ
both_words number bits = terminal_name number ++ codes " " ++ decimal bits

-- What stands in a box of this width: the terminal and how many bit times, the terminal alone, or nothing, as there is room.
abbrev pub inside_words : (width number bits : ℕ) → List ℕ
inside_words width number bits =
    if nat_le wide_box width then both_words number bits
    else (if nat_le narrow_box width then terminal_name number else [])

-- The words in a box, in its middle.
abbrev pub inside_text : Area → (number bits : ℕ) → List ℕ
inside_text area number bits =
    words_text Digits (area.left + area.width / 2) (area.top + box_line) (inside_words area.width number bits)

-- The box of a message.
abbrev pub box_text : Area → ℕ → Stretch → List ℕ
box_text area number stretch = painted Sent area (sent_words number stretch)

-- The same where its moments lie, and the words in it.
abbrev pub message_text : Scale → (top number : ℕ) → Stretch → List ℕ
message_text scale top number stretch =
    box_text (area_of scale stretch.from stretch.to top box_height) number stretch
    ++ inside_text (area_of scale stretch.from stretch.to top box_height) number (stretch.to - stretch.from)

-- A gap: a line between two moments.
abbrev pub gap_text : Scale → (top from to : ℕ) → List ℕ
gap_text scale top from to = plain Gap (area_of scale from to (top + gap_below) gap_height)

-- A message behind its gap.
abbrev pub stretch_text : Scale → (top number : ℕ) → Stretch → List ℕ
stretch_text scale top number stretch =
    gap_text scale top stretch.gap stretch.from ++ message_text scale top number stretch

-- The axis of time, above, and that of bit times, below.
abbrev pub upper_axis : Axis
upper_axis = record { unit = Microseconds; words = 130; class = Tick; top = 160; height = 50 }

abbrev pub lower_axis : (height : ℕ) → Axis
lower_axis height = record { unit = BitTimes; words = 230 + height + 130; class = Grid; top = 230; height = height }

-- The axes of a picture whose plot has this height.
abbrev pub axes_text : Scale → (height : ℕ) → List ℕ
axes_text scale height = axis_text scale upper_axis ++ axis_text scale (lower_axis height)

-- The name of a cycle at the left, and its length.
abbrev pub lane_text : (top : ℕ) → List ℕ → ℕ → List ℕ
lane_text top name bits =
    words_text Counts words_right (top + 120) name ++ words_text Detail words_right (top + 250) (decimal bits)
