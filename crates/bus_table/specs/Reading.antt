-- What a table text reads as, and the stage and the reason of its refusal.
use Rattle.std.specs.Prelude.{ℕ, List, [], ◌∷◌, Option, Some, None, Result, Ok, Err, if◌then◌else◌}
use Rattle.bus_text.specs.declared.reason.Reason.TheVariants.{Ended}
use Rattle.bus_text.specs.AllOf.{◌>>=◌}
use Rattle.bus_text.specs.Lines.{Entry, entries_of, line_after_of}
use Rattle.bus_text.specs.Refusals.{Refusal, at_line}
use Rattle.bus_table.specs.declared.error.WholeReason.{WholeReason}
use Rattle.bus_table.specs.declared.error.TableError.{TableError}
use Rattle.bus_table.specs.declared.error.TableError.TheVariants.{Text, Whole}
use Rattle.bus_table.specs.Drafts.{Draft, start, may_end, line_reading}
use Rattle.bus_table.specs.Tables.{Table}
use Rattle.bus_table.specs.Whole.{whole_refusal}

-- The draft after one line.
abbrev pub step : Draft → Entry → Result Draft Refusal
step draft entry = at_line entry.number (line_reading draft entry.fields)

-- The draft after these lines, or the first refusal.
unfoldable pub steps : Draft → List Entry → Result Draft Refusal
steps draft [] = Ok draft
steps draft (entry ∷ entries) = step draft entry >>= λ next. steps next entries

-- The table of a draft that may end.
abbrev pub table_of : Draft → Table
table_of draft = record { mode = draft.mode; ti = draft.ti; sg = draft.sg; senders = draft.senders; listeners = draft.listeners }

-- The table of the last draft, where the text may end there; else the text has ended too early, one past its last line.
abbrev pub ended : ℕ → Draft → Result Table Refusal
ended after draft = if may_end draft.stage then Ok (table_of draft) else Err (record { line = after; reason = Ended })

-- The table that a text stands for, valid or not.
unfoldable pub text_reading : List ℕ → Result Table Refusal
text_reading text = steps start (entries_of text) >>= ended (line_after_of text)

-- A table, unless a whole reason applies.
abbrev pub unless_whole : Option WholeReason → Table → Result Table TableError
unless_whole None table = Ok table
unless_whole (Some reason) table = Err (Whole reason)

-- A table, if it is valid, or else the first whole reason.
abbrev pub judged : Table → Result Table TableError
judged table = unless_whole (whole_refusal table) table

-- The answer for what a text reads as.
abbrev pub answered : Result Table Refusal → Result Table TableError
answered (Ok table) = judged table
answered (Err refusal) = Err (Text refusal.line refusal.reason)

-- The answer that is due to a text.
abbrev pub answer_of : List ℕ → Result Table TableError
answer_of text = answered (text_reading text)
