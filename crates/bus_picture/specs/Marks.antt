-- The mark of the first breach: a dashed line over the full height, whose dashes lie between the boxes of the rows, and words above the
-- plot.
use Rattle.std.specs.Prelude.{ℕ, ◌+◌, ◌-◌, min, Bool, ◌==◌, nat_lt, List, [], ◌∷◌, ◌++◌, if◌then◌else◌}
use Rattle.bus_audit.specs.Lines.{answer_words}
use Rattle.bus_audit.specs.declared.answer.AuditAnswer.{AuditAnswer}
use Rattle.bus_audit.specs.declared.answer.AuditAnswer.TheVariants.{Lawful, Breach}
use Rattle.bus_dump.specs.declared.lane.Lane.{Lane}
use Rattle.bus_pen.specs.declared.area.Area.{Area}
use Rattle.bus_pen.specs.declared.class.Class.TheVariants.{BreachWords}
use Rattle.bus_pen.specs.declared.class.Class.TheVariants as classes
use Rattle.bus_pen.specs.declared.scale.Scale.{Scale}
use Rattle.bus_pen.specs.Scales.{place}
use Rattle.bus_pen.specs.Shapes.{box_text, words_text}
use Rattle.bus_picture.specs.Lanes.{each_lane, lane_top}
use Rattle.bus_picture.specs.declared.measures.TheConstants.{BOX_BELOW as box_below, BOX_HEIGHT as box_height, BREACH_LINE as breach_line}
use Rattle.bus_picture.specs.declared.measures.TheConstants.{BREACH_WIDTH as breach_width, HEAD_HEIGHT as head_height}
use Rattle.bus_picture.specs.declared.measures.TheConstants.{HEAD_TOP as head_top, LINE_WIDTH as line_width, PLOT_TOP as plot_top}
use Rattle.bus_picture.specs.declared.measures.TheConstants.{ROW_HEIGHT as row_height, WORDS_LEAST as words_least}
use Rattle.bus_picture.specs.declared.measures.TheConstants.{WORDS_MOST as words_most}
use Rattle.bus_picture.specs.Strings.{has_moment}

-- ---- where it is
-- The dash above the boxes of a row with this upper edge.
abbrev pub upper_dash : ℕ → ℕ → ℕ → Area
upper_dash left width top = record { left = left; top = top; width = width; height = box_below }

-- The dash below them.
abbrev pub lower_dash : ℕ → ℕ → ℕ → Area
lower_dash left width top = record {
  left = left;
  top = top + (box_below + box_height);
  width = width;
  height = row_height - (box_below + box_height);
}

-- The dash above the plot.
abbrev pub head_dash : ℕ → Area
head_dash left = record { left = left; top = head_top; width = line_width; height = head_height }

-- The middle of the words: at the line, and so far from the right edge that they have room. Left of the plot they have.
abbrev pub words_middle : ℕ → ℕ
words_middle left = min left words_most

-- ---- the line
-- The dashes of a row.
abbrev pub dashes_text : ℕ → ℕ → ℕ → List ℕ
dashes_text left width top =
    box_text classes.Breach (upper_dash left width top) ++ box_text classes.Breach (lower_dash left width top)

-- How wide they are: in the lane of the terminal wider than in the others.
abbrev pub dash_width : Bool → ℕ
dash_width own = if own then breach_width else line_width

-- The dashes of lane k.
abbrev pub lane_dashes : ℕ → ℕ → ℕ → Lane → List ℕ
lane_dashes left terminal k lane = dashes_text left (dash_width (lane.terminal == terminal)) (lane_top k)

-- The line at a place: above the plot, over the bus and over all lanes.
abbrev pub line_text : ℕ → ℕ → List Lane → List ℕ
line_text left terminal lanes =
    box_text classes.Breach (head_dash left) ++ dashes_text left line_width plot_top ++ each_lane (lane_dashes left terminal) 0 lanes

-- ---- its words
-- An arrow to the left, and a space.
abbrev pub to_left : List ℕ
to_left = 226 ∷ 134 ∷ 144 ∷ 32 ∷ []

-- A space, and an arrow to the right.
abbrev pub to_right : List ℕ
to_right = 32 ∷ 226 ∷ 134 ∷ 146 ∷ []

-- Words above the plot.
abbrev pub above_text : ℕ → List ℕ → List ℕ
above_text middle words = words_text BreachWords middle breach_line words

-- The mark of a breach that the scale has.
abbrev pub mark_text : ℕ → ℕ → List Lane → AuditAnswer → List ℕ
mark_text left terminal lanes answer = line_text left terminal lanes ++ above_text (words_middle left) (answer_words answer)

-- Where it is, of a breach that the scale doesn't have: words at the edge nearest to it, with an arrow that points there.
abbrev pub arrow_text : Bool → AuditAnswer → List ℕ
arrow_text earlier answer =
    if earlier then above_text words_least (to_left ++ answer_words answer) else above_text words_most (answer_words answer ++ to_right)

-- A breach of this terminal at a moment.
abbrev pub breach_at : Scale → List Lane → ℕ → ℕ → AuditAnswer → List ℕ
breach_at scale lanes moment terminal answer =
    if has_moment scale moment then mark_text (place scale moment) terminal lanes answer else arrow_text (nat_lt moment scale.from) answer

-- The first breach.
abbrev pub breach_text : Scale → List Lane → AuditAnswer → List ℕ
breach_text scale lanes (Lawful collided) = []
breach_text scale lanes (Breach moment terminal kind) = breach_at scale lanes moment terminal (Breach moment terminal kind)
