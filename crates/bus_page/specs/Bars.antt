-- Which rule limits the tolerance of a table: a bar for each of its limits, of what that alone bears.
use Rattle.std.specs.Prelude.{ℕ, ◌+◌, ◌-◌, ◌*◌, ◌^◌, Bool, true, false, ◌==◌, min, max, List, [], ◌++◌, length, fold, codes, decimal}
use Rattle.std.specs.Prelude.{Option, Some, None, if◌then◌else◌}
use Rattle.std.specs.Option.{option_map_or, unwrap_or}
use Rattle.bus_say.specs.Times.{time_text}
use Rattle.bus_reach.specs.declared.limit.Limit.{Limit}
use Rattle.bus_reach.specs.declared.limit.Rule.{Rule}
use Rattle.bus_reach.specs.declared.limit.Rule.TheVariants.{LeastGap, NextGap, OwnGap, Sync}
use Rattle.bus_pen.specs.declared.class.Class.{Class}
use Rattle.bus_pen.specs.declared.class.Class.TheVariants.{Answer, Counts, Note}
use Rattle.bus_pen.specs.declared.scale.Scale.{Scale}
use Rattle.bus_pen.specs.Scales.{place}
use Rattle.bus_pen.specs.declared.area.Area.{Area}
use Rattle.bus_pen.specs.Shapes.{words_text}
use Rattle.bus_page.specs.Messages.{area_of}
use Rattle.bus_page.specs.declared.measures.TheConstants.{BAR_HEIGHT as bar_height, BAR_LINE as bar_line, BESIDE_BAR as beside_bar}
use Rattle.bus_page.specs.declared.measures.TheConstants.{ROW_HEIGHT as row_height, ROWS_TOP as rows_top, RULES_LEFT as rules_left}
use Rattle.bus_page.specs.declared.measures.TheConstants.{RULES_WIDTH as rules_width}
use Rattle.bus_page.specs.Rows.{rows}
use Rattle.bus_page.specs.Paints.{Bears, Limits, Paint, Tolerance, picture_end, picture_front, plain}

-- ---- the words of a bar
-- Words, and the number of a terminal.
abbrev pub named : List ℕ → ℕ → List ℕ
named name terminal = name ++ decimal terminal

-- A rule, with its terminal.
abbrev pub rule_words : Rule → List ℕ
rule_words (LeastGap terminal) = named (codes "least terminal gap, of T") terminal
rule_words (NextGap terminal) = named (codes "gap above that of T") terminal
rule_words (OwnGap terminal) = named (codes "gap before T") terminal
rule_words (Sync terminal) = named (codes "synchronization of T") terminal

-- What it alone bears.
abbrev pub borne_words : Option ℕ → List ℕ
borne_words None = codes "every delay"
borne_words (Some delay) = time_text delay

-- ---- the bar
-- Whether what a rule bears is what the table bears.
abbrev pub is_least : Option ℕ → Option ℕ → Bool
is_least tolerance bears = option_map_or (λ x. option_map_or (λ y. x == y) bears false) tolerance false

abbrev pub paint_of : Bool → Paint
paint_of limits = if limits then Limits else Bears

-- Its words stand out too, since its bar may be narrow.
abbrev pub words_class : Bool → Class
words_class limits = if limits then Answer else Note

-- Where a bar ends: what bears every delay goes over the whole width.
abbrev pub bar_end : Scale → Option ℕ → ℕ
bar_end scale bears = unwrap_or bears scale.to

-- The words before a bar, and those behind one that ends here.
abbrev pub before_text : (top : ℕ) → Rule → List ℕ
before_text top rule = words_text Counts (rules_left - beside_bar) (top + bar_line) (rule_words rule)

abbrev pub behind_text : Class → (left top : ℕ) → Option ℕ → List ℕ
behind_text class left top bears = words_text class (left + beside_bar) (top + bar_line) (borne_words bears)

-- The row of a limit.
abbrev pub bar_text : Scale → Option ℕ → (top : ℕ) → Limit → List ℕ
bar_text scale tolerance top limit =
    before_text top limit.rule
    ++ plain (paint_of (is_least tolerance limit.bears)) (area_of scale 0 (bar_end scale limit.bears) top bar_height)
    ++ behind_text (words_class (is_least tolerance limit.bears)) (place scale (bar_end scale limit.bears)) top limit.bears

-- The rows of limits.
abbrev pub bar_rows : Scale → Option ℕ → List Limit → List ℕ
bar_rows scale tolerance limits = rows (bar_text scale tolerance) row_height rows_top limits

-- ---- the picture
-- The greatest delay that a rule bears which doesn't bear all, and at least 1.
abbrev pub greatest_borne : List Limit → ℕ
greatest_borne limits = fold (λ most limit. max most (unwrap_or limit.bears 0)) 1 limits

-- From no delay to that one.
abbrev pub bars_scale : List Limit → Scale
bars_scale limits = record { from = 0; to = min (greatest_borne limits) (2 ^ 40); left = rules_left; width = rules_width }

-- The tolerance: a line through all rows.
abbrev pub tolerance_area : Scale → (rows delay : ℕ) → Area
tolerance_area scale rows delay = record { left = place scale delay; top = rows_top - 20; width = 12; height = row_height * rows }

abbrev pub tolerance_mark : Scale → (rows : ℕ) → Option ℕ → List ℕ
tolerance_mark scale rows None = []
tolerance_mark scale rows (Some delay) = plain Tolerance (tolerance_area scale rows delay)

-- The picture of the limits of a table with this tolerance.
abbrev pub picture_text : Option ℕ → List Limit → List ℕ
picture_text tolerance limits =
    picture_front (rows_top + row_height * length limits) (codes "What each rule bears")
    ++ bar_rows (bars_scale limits) tolerance limits
    ++ tolerance_mark (bars_scale limits) (length limits) tolerance ++ picture_end

-- What its bars mean.
abbrev pub legend_text : List ℕ
legend_text =
    codes "<p>The bar of a rule is the greatest delay that it alone bears, and the line through them what the table bears; "
    ++ codes "rules that bear no more stand out. Of a rule that bears every delay the bar has the full width.</p>\n"

abbrev pub explained_text : Option ℕ → List Limit → List ℕ
explained_text tolerance limits = legend_text ++ picture_text tolerance limits

-- Both, or that there are none.
abbrev pub told_text : (none : Bool) → Option ℕ → List Limit → List ℕ
told_text true tolerance limits = codes "<p>None: one sender alone keeps its times, however long the cable is.</p>\n"
told_text false tolerance limits = explained_text tolerance limits

-- What is told of the limits of a table with this tolerance.
abbrev pub bars_text : Option ℕ → List Limit → List ℕ
bars_text tolerance limits = told_text (length limits == 0) tolerance limits
