-- What `explain` writes of a text: what its table's verdict means, or why it stands for no valid table, and what to change.
use Rattle.std.specs.Prelude.{ℕ, List, [], ◌++◌, Result, Ok, Err}
use Rattle.bus_table.specs.declared.error.TableError.{TableError}
use Rattle.bus_table.specs.declared.error.TableError.TheVariants.{Text, Whole, Memory}
use Rattle.bus_table.specs.Reading.{answer_of}
use Rattle.bus_table.specs.Stops.{stop_of}
use Rattle.bus_table.specs.Tables.{Table}
use Rattle.bus_regime.specs.Verdicts.{verdict_of}
use Rattle.bus_regime.specs.declared.table_verdict.TableVerdict.{TableVerdict}
use Rattle.bus_regime.specs.declared.table_verdict.TableVerdict.TheVariants.{Accept, ShortCycle, SmallGap, NoSync}
use Rattle.bus_advice.specs.Advices.{advices_of, periodic_table}
use Rattle.bus_explain.specs.Accepted.{accepted_text}
use Rattle.bus_explain.specs.Beyond.{beyond_text}
use Rattle.bus_cable_plan.specs.Answers.{most_borne_of}
use Rattle.bus_explain.specs.Refused.{refused_text}
use Rattle.bus_explain.specs.Unread.{unread_text}
use Rattle.bus_explain.specs.Wholes.{whole_text}
use Rattle.bus_tool.specs.Tolerances.{tolerance_of}

-- What is written of a table that the verdict accepts with these numbers, with the advices on it.
abbrev pub accepted_as : Table → (least most : ℕ) → List ℕ
accepted_as table least most =
    accepted_text table least most (tolerance_of table) (advices_of table)
    ++ beyond_text (most_borne_of table) table

-- What is written of a table that this verdict refuses: why, with the advices on it, what is odd about its lines, and the table that one of
-- the advices plans.
abbrev pub refused_as : TableVerdict → Table → List ℕ
refused_as verdict table = refused_text table verdict (advices_of table) (periodic_table table)

-- What is written of a table with this verdict.
abbrev pub verdict_explained : TableVerdict → Table → List ℕ
verdict_explained (Accept mode least most) table = accepted_as table least most
verdict_explained (ShortCycle least ti) table = refused_as (ShortCycle least ti) table
verdict_explained (SmallGap terminal gap needed) table = refused_as (SmallGap terminal gap needed) table
verdict_explained (NoSync terminal gap needed) table = refused_as (NoSync terminal gap needed) table

-- What is written of a table.
abbrev pub table_explained : Table → List ℕ
table_explained table = verdict_explained (verdict_of table) table

-- What is written of a text that gives no valid table for this reason; want of memory is no reason of a text.
abbrev pub error_explained : TableError → List ℕ → List ℕ
error_explained (Text line reason) text = unread_text line reason (stop_of text)
error_explained (Whole reason) text = whole_text reason
error_explained Memory text = []

-- What is written of a text that gives this.
abbrev pub answer_explained : Result Table TableError → List ℕ → List ℕ
answer_explained (Ok table) text = table_explained table
answer_explained (Err error) text = error_explained error text

-- What is written of a text.
abbrev pub explanation : List ℕ → List ℕ
explanation text = answer_explained (answer_of text) text
