-- The two kinds of elements of a picture, boxes and words, and the text of each: a line. A unit is a tenth of a pixel.
use Rattle.std.specs.Prelude.{ℕ, List, ◌++◌, codes, decimal}
use Rattle.bus_pen.specs.Classes.{Class, class_name}
pub use Rattle.bus_pen.specs.declared.area.Area.{Area}

-- A box up to its end: its class, its left upper corner, its width and its height.
abbrev pub box_front : Class → Area → List ℕ
box_front class area =
    codes "<rect class=\"" ++ class_name class ++ codes "\" x=\"" ++ decimal area.left ++ codes "\" y=\"" ++ decimal area.top
    ++ codes "\" width=\"" ++ decimal area.width ++ codes "\" height=\"" ++ decimal area.height ++ codes "\""

-- A box.
abbrev pub box_text : Class → Area → List ℕ
box_text class area = box_front class area ++ codes "/>\n"

-- The beginning of a box with words that are shown under the pointer, up to these words.
abbrev pub titled_front : Class → Area → List ℕ
titled_front class area = box_front class area ++ codes "><title>"

-- The end of such a box, behind its words.
abbrev pub titled_end : List ℕ
titled_end = codes "</title></rect>\n"

-- A box with words that are shown under the pointer.
abbrev pub titled_text : Class → Area → List ℕ → List ℕ
titled_text class area words = titled_front class area ++ words ++ titled_end

-- The beginning of words at a place: where they begin, end or have their middle, by their class, and the line on which they stand.
abbrev pub words_front : Class → ℕ → ℕ → List ℕ
words_front class left line =
    codes "<text class=\"" ++ class_name class ++ codes "\" x=\"" ++ decimal left ++ codes "\" y=\"" ++ decimal line ++ codes "\">"

-- The end of words.
abbrev pub words_end : List ℕ
words_end = codes "</text>\n"

-- Words at a place.
abbrev pub words_text : Class → ℕ → ℕ → List ℕ → List ℕ
words_text class left line words = words_front class left line ++ words ++ words_end
