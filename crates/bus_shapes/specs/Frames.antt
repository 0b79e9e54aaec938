-- What stands around each picture: its head with the title and the style, the words above the plot, and its end.
use Rattle.std.specs.Prelude.{ℕ, ◌/◌, List, [], ◌++◌, codes, decimal}
use Rattle.bus_strings.specs.Messages.{Entry}
use Rattle.bus_regime.specs.declared.table_verdict.TableVerdict.{TableVerdict}
use Rattle.bus_regime.specs.Lines.{verdict_words}
use Rattle.bus_table.specs.Tables.{Table}
use Rattle.bus_pen.specs.declared.area.Area.{Area}
use Rattle.bus_pen.specs.declared.class.Class.TheVariants.{Answer, Background, Note}
use Rattle.bus_pen.specs.declared.class.Class.TheVariants as classes
use Rattle.bus_shapes.specs.Headings.{Told, Audit, OnCable, Findings, sending_words, told_heading, told_words, verdict_class}
use Rattle.bus_shapes.specs.Headings.{verdict_heading}
use Rattle.bus_pen.specs.Numbers.{counted, parted}
use Rattle.bus_pen.specs.Styles.{fault_style, style_text}
use Rattle.bus_shapes.specs.Sayings.{table_words}
use Rattle.bus_pen.specs.Shapes.{box_text, words_text}
pub use Rattle.bus_shapes.specs.declared.counts.Counts.{Counts}
use Rattle.bus_pen.specs.declared.measures.TheConstants.{ANSWER_LINE as answer_line, FACTS_LINE as facts_line, HEAD_LINE as head_line}
use Rattle.bus_pen.specs.declared.measures.TheConstants.{LEFT_MARGIN as left_margin, PICTURE_WIDTH as picture_width, PIXEL as pixel}
use Rattle.bus_pen.specs.declared.measures.TheConstants.{RIGHT_MARGIN as right_margin}

-- ---- the head
-- The style of the marks of findings, where they are told.
abbrev pub told_style : Told → List ℕ
told_style (Audit answer) = []
told_style (OnCable garbled) = []
told_style (Findings bounds judgements garbled) = fault_style

-- The size of a picture of this height, and of its width, in pixels and in units. Browsers scale it to the width that they have for it.
abbrev pub size_text : ℕ → List ℕ
size_text height =
    codes "<svg xmlns=\"http://www.w3.org/2000/svg\" role=\"img\" width=\"1040\" height=\"" ++ decimal (height / pixel)
    ++ codes "\" style=\"width:100%;height:auto\" viewBox=\"0 0 10400 " ++ decimal height ++ codes "\">\n"

-- The title: the words of the verdict, and of what is told of the trace.
abbrev pub title_text : List ℕ → List ℕ → List ℕ
title_text verdict told = codes "<title>" ++ verdict ++ codes "; " ++ told ++ codes "</title>\n"

-- ---- the words above the plot
-- What is shown of a trace: its moments, how many transmissions that is, and how many of these are garbled.
abbrev pub counts_words : Told → Counts → List ℕ
counts_words told counts =
    codes "moments " ++ parted (decimal counts.from) ++ codes " to " ++ parted (decimal counts.to) ++ codes " of "
    ++ parted (decimal counts.horizon)
    ++ codes ": " ++ counted counts.shown (codes "transmission") ++ codes ", " ++ parted (decimal counts.garbled) ++ codes " garbled"
    ++ sending_words told

-- The background of a picture of this height.
abbrev pub background : ℕ → Area
background height = record { left = 0; top = 0; width = picture_width; height = height }

-- The headings of the verdict and of what is told of the trace, a line each. Of the longest, a breach in the longest trace, the last letter
-- ends 960 units before the right margin, where a picture may put a few words of its own.
abbrev pub heads_text : TableVerdict → Told → List Entry → List ℕ
heads_text verdict told list =
    words_text (verdict_class verdict) left_margin head_line (verdict_heading verdict)
    ++ words_text Answer left_margin answer_line (told_heading list told)

-- The words of the table, and the counts. They have room for 151 letters, and with moments of ten digits and counts of seven are 141 at
-- most, and 149 of a trace of which it is known what terminals hear.
abbrev pub facts_text : Told → Table → Counts → List ℕ
facts_text told table counts =
    words_text Note left_margin facts_line (table_words table)
    ++ words_text classes.Counts right_margin facts_line (counts_words told counts)

-- All that stands before the plot of a picture of this height, of a list.
abbrev pub frame_text : ℕ → TableVerdict → Told → Table → List Entry → Counts → List ℕ
frame_text height verdict told table list counts =
    size_text height ++ title_text (verdict_words verdict) (told_words told) ++ style_text ++ told_style told
    ++ box_text Background (background height)
    ++ heads_text verdict told list ++ facts_text told table counts

-- The end of a picture.
abbrev pub tail_text : List ℕ
tail_text = codes "</svg>\n"
