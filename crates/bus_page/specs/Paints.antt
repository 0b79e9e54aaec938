-- What the boxes of the pictures of a page stand for, and the text of each: a line. A unit is a tenth of a pixel.
use Rattle.std.specs.Prelude.{ℕ, List, ◌++◌, codes, decimal}
use Rattle.bus_pen.specs.declared.area.Area.{Area}
pub use Rattle.bus_page.specs.declared.paint.Paint.{Paint}
pub use Rattle.bus_page.specs.declared.paint.Paint.TheVariants.{Sent, Gap, Synchronizes, Interval, Spare, Bears, Limits, Wait, Tolerance}
pub use Rattle.bus_page.specs.declared.paint.Paint.TheVariants.{Need}

-- What a box is called, by which the style finds it.
abbrev pub paint_name : Paint → List ℕ
paint_name Sent = codes "sent"
paint_name Gap = codes "gap"
paint_name Synchronizes = codes "synchronizes"
paint_name Interval = codes "ti"
paint_name Spare = codes "spare"
paint_name Bears = codes "bears"
paint_name Limits = codes "limits"
paint_name Wait = codes "wait"
paint_name Tolerance = codes "tolerance"
paint_name Need = codes "need"

-- A box up to its width: what it is, and its left upper corner.
abbrev pub paint_corner : Paint → Area → List ℕ
paint_corner paint area =
    codes "<rect class=\"" ++ paint_name paint ++ codes "\" x=\"" ++ decimal area.left ++ codes "\" y=\"" ++ decimal area.top

-- A box up to its end.
abbrev pub paint_front : Paint → Area → List ℕ
paint_front paint area =
    paint_corner paint area ++ codes "\" width=\"" ++ decimal area.width ++ codes "\" height=\"" ++ decimal area.height ++ codes "\">"

-- The beginning of a box with words that are shown under the pointer, up to these words, and its end behind them.
abbrev pub painted_front : Paint → Area → List ℕ
painted_front paint area = paint_front paint area ++ codes "<title>"

abbrev pub painted_end : List ℕ
painted_end = codes "</title></rect>\n"

-- A box with such words.
abbrev pub painted : Paint → Area → List ℕ → List ℕ
painted paint area words = painted_front paint area ++ words ++ painted_end

-- A box without words.
abbrev pub plain : Paint → Area → List ℕ
plain paint area = paint_front paint area ++ codes "</rect>\n"

-- ---- the frame of a picture
-- The beginning of a picture of this height: its size, and what it shows.
abbrev pub picture_front : ℕ → List ℕ → List ℕ
picture_front height title =
    codes "<svg role=\"img\" viewBox=\"0 0 10400 " ++ decimal height ++ codes "\">\n<title>" ++ title ++ codes "</title>\n"

-- Its end.
abbrev pub picture_end : List ℕ
picture_end = codes "</svg>\n"
