-- The whole page of a text: of the table that it gives, or that it gives none.
--   program   what writes it: its name and its version
--   bytes     the text as it was given
--   asked     the bounds that are asked for, where some are
use Rattle.std.specs.Prelude.{ℕ, true, false, List, [], ◌++◌, codes, decimal, Option, Some, None, Result, Ok, Err}
use Rattle.bus_bounds.specs.Bounds.{Bounds}
use Rattle.bus_text.specs.declared.reason.Reason.{Reason}
use Rattle.bus_table.specs.declared.error.TableError.{TableError}
use Rattle.bus_table.specs.declared.error.TableError.TheVariants.{Text, Whole, Memory}
use Rattle.bus_table.specs.declared.error.WholeReason.{WholeReason}
use Rattle.bus_table.specs.declared.mode.Mode.{Mode}
use Rattle.bus_table.specs.declared.mode.Mode.TheVariants.{Aperiodic, Periodic}
use Rattle.bus_table.specs.Reading.{answer_of}
use Rattle.bus_table.specs.Stops.{stop_of}
use Rattle.bus_table.specs.Tables.{Table}
use Rattle.bus_regime.specs.Verdicts.{verdict_of}
use Rattle.bus_regime.specs.declared.table_verdict.TableVerdict.{TableVerdict}
use Rattle.bus_regime.specs.declared.table_verdict.TableVerdict.TheVariants.{Accept, ShortCycle, SmallGap, NoSync}
use Rattle.bus_advice.specs.Advices.{advices_of, periodic_table}
use Rattle.bus_cable_plan.specs.Answers.{most_borne_of}
use Rattle.bus_explain.specs.Accepted.{summary_text}
use Rattle.bus_explain.specs.Beyond.{beyond_text}
use Rattle.bus_explain.specs.Refused.{refused_text}
use Rattle.bus_explain.specs.Unread.{unread_text}
use Rattle.bus_explain.specs.Wholes.{whole_text}
use Rattle.bus_margins.specs.Texts.{aperiodic_text}
use Rattle.bus_margins_periodic.specs.Texts.{periodic_text}
use Rattle.bus_reach.specs.Bearing.{tolerance_of}
use Rattle.bus_takes.specs.Matrix.{matrix_text}
use Rattle.bus_page.specs.Cycles.{Times, cycles_text}
use Rattle.bus_page.specs.Feet.{foot_text, resting_text}
use Rattle.bus_page.specs.Heads.{bare_head_text, bare_heading_text, bounds_of, figures_text, head_text, heading_text, section_text}
use Rattle.bus_page.specs.Heads.{verdict_text}
use Rattle.bus_reach.specs.Limits.{limits_of}
use Rattle.bus_page.specs.Bars.{bars_text}
use Rattle.bus_page.specs.Intervals.{interval_text}
use Rattle.bus_page.specs.Latencies.{latencies_text}
use Rattle.bus_page.specs.Rooms.{rooms_text}
use Rattle.bus_page.specs.Slots.{begin_of, slots_of}
use Rattle.bus_page.specs.Turns.{turns_of}
use Rattle.bus_page.specs.Waits.{waits_legend, waits_text}

-- ---- pictures
-- The times of an accepted table with these numbers of its verdict.
abbrev pub times_of : Table → (least most : ℕ) → Times
times_of table least most = record { ti = table.ti; sg = table.sg; least = least; most = most }

-- The picture of the cycle of a table of this mode.
abbrev pub cycle_picture : Mode → Table → (least most : ℕ) → List ℕ
cycle_picture Aperiodic table least most =
    section_text (codes "The shortest and the longest cycle, on one axis") ++ cycles_text (times_of table least most) (turns_of table)
cycle_picture Periodic table least most =
    section_text (codes "One interval, with longest messages") ++ interval_text (begin_of table) table.ti (slots_of table)

-- What limits the tolerance.
abbrev pub limits_picture : Table → List ℕ
limits_picture table =
    section_text (codes "Which rule limits the tolerance") ++ bars_text (tolerance_of table) (limits_of table)

-- How long data wait, and how old they are when they have been received.
abbrev pub waits_picture : Table → (most : ℕ) → List ℕ
waits_picture table most =
    section_text (codes "How long data wait: those that just miss a start, until their message is sent, without delays")
    ++ waits_legend most ++ waits_text most table.senders

abbrev pub latencies_section : Table → (most : ℕ) → List ℕ
latencies_section table most =
    section_text (codes "How old data are at most when they have been received") ++ latencies_text table most (tolerance_of table)

-- Who sends and who takes.
abbrev pub takers_section : Table → List ℕ
takers_section table = section_text (codes "Who takes what") ++ matrix_text table

-- All of them.
abbrev pub pictures_text : Option Bounds → Table → (least most : ℕ) → List ℕ
pictures_text asked table least most =
    cycle_picture table.mode table least most ++ limits_picture table ++ rooms_text asked table ++ waits_picture table most
    ++ latencies_section table most ++ takers_section table

-- ---- the page of an accepted table
-- What stands before its sentences.
abbrev pub accepted_front : Option Bounds → Table → (least most : ℕ) → List ℕ
accepted_front asked table least most =
    head_text (verdict_of table) ++ heading_text true ++ verdict_text (verdict_of table)
    ++ figures_text (bounds_of asked) table least most (tolerance_of table) ++ pictures_text asked table least most ++ resting_text
    ++ section_text (codes "What it means") ++ codes "<pre class=\"said\">"

-- Its sentences: those of `explain`, but without what is said of each sender, which the pictures and the text show.
abbrev pub accepted_sentences : Table → (least most : ℕ) → List ℕ
accepted_sentences table least most =
    summary_text table least most (tolerance_of table) (advices_of table) ++ beyond_text (most_borne_of table) table

-- What `margins` writes of a table of this mode.
abbrev pub margins_text : Mode → Bounds → Table → List ℕ
margins_text Aperiodic bounds table = aperiodic_text bounds table
margins_text Periodic bounds table = periodic_text bounds table

-- The words behind the command and the table.
abbrev pub bounds_words : Bounds → List ℕ
bounds_words bounds = decimal bounds.delay ++ codes " " ++ decimal bounds.jitter ++ codes " " ++ decimal bounds.clocks

-- Under its heading, where bounds are asked for.
abbrev pub asked_front : Bounds → List ℕ
asked_front bounds =
    codes "</pre>\n<h2>What margins writes of it with " ++ bounds_words bounds ++ codes "</h2>\n<pre>"

abbrev pub asked_text : Option Bounds → Table → List ℕ
asked_text None table = []
asked_text (Some bounds) table = asked_front bounds ++ margins_text table.mode bounds table

-- All of it.
abbrev pub accepted_page : (program bytes : List ℕ) → Option Bounds → Table → (least most : ℕ) → List ℕ
accepted_page program bytes asked table least most =
    accepted_front asked table least most
    ++ (accepted_sentences table least most ++ (asked_text asked table ++ foot_text program bytes))

-- ---- the page of a refused table
-- What stands before its sentences.
abbrev pub refused_front : TableVerdict → List ℕ
refused_front verdict =
    head_text verdict ++ heading_text false ++ verdict_text verdict ++ section_text (codes "Why, and what to change") ++ codes "<pre>"

-- The sentences and advices of `explain`, in place of pictures, and the end of the page.
abbrev pub refused_end : (program bytes : List ℕ) → TableVerdict → Table → List ℕ
refused_end program bytes verdict table =
    refused_text table verdict (advices_of table) (periodic_table table) ++ foot_text program bytes

-- All of it.
abbrev pub refused_page : (program bytes : List ℕ) → TableVerdict → Table → List ℕ
refused_page program bytes verdict table = refused_front verdict ++ refused_end program bytes verdict table

-- ---- any table
-- The page of a table with this verdict.
abbrev pub page_with : (program bytes : List ℕ) → Option Bounds → TableVerdict → Table → List ℕ
page_with program bytes asked (Accept mode least most) table = accepted_page program bytes asked table least most
page_with program bytes asked (ShortCycle least ti) table = refused_page program bytes (ShortCycle least ti) table
page_with program bytes asked (SmallGap terminal gap needed) table = refused_page program bytes (SmallGap terminal gap needed) table
page_with program bytes asked (NoSync terminal gap needed) table = refused_page program bytes (NoSync terminal gap needed) table

-- The page of a table.
unfoldable pub table_page : (program bytes : List ℕ) → Option Bounds → Table → List ℕ
table_page program bytes asked table = page_with program bytes asked (verdict_of table) table

-- ---- the page of a text that gives no valid table
-- What stands before its sentences.
abbrev pub bare_front : List ℕ
bare_front = bare_head_text ++ bare_heading_text ++ section_text (codes "Why, and what to change") ++ codes "<pre>"

-- The sentences of `explain`, and the end of the page: of a text of which a line is refused, and of a table that is wrong as a whole.
abbrev pub unread_page : (program bytes : List ℕ) → (line : ℕ) → Reason → List ℕ
unread_page program bytes line reason = bare_front ++ (unread_text line reason (stop_of bytes) ++ foot_text program bytes)

abbrev pub whole_page : (program bytes : List ℕ) → WholeReason → List ℕ
whole_page program bytes reason = bare_front ++ (whole_text reason ++ foot_text program bytes)

-- Of a text that gives no valid table for this reason; want of memory is no reason of a text.
abbrev pub error_page : (program bytes : List ℕ) → TableError → List ℕ
error_page program bytes (Text line reason) = unread_page program bytes line reason
error_page program bytes (Whole reason) = whole_page program bytes reason
error_page program bytes Memory = []

-- ---- any text
-- The page of a text that gives this.
abbrev pub answer_page : (program bytes : List ℕ) → Option Bounds → Result Table TableError → List ℕ
answer_page program bytes asked (Ok table) = table_page program bytes asked table
answer_page program bytes asked (Err error) = error_page program bytes error

-- The page of a text.
abbrev pub page_text : (program bytes : List ℕ) → Option Bounds → List ℕ
page_text program bytes asked = answer_page program bytes asked (answer_of bytes)
