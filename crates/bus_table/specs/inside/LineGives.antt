-- What a call gave that took a line of a table text. No public clause cites it.
use Rattle.std.specs.Prelude.{◌≡◌, Result, Ok, Err}
use Rattle.bus_text.specs.Refusals.{Refusal}
use Rattle.bus_table.specs.declared.error.TableError.{TableError}
use Rattle.bus_table.specs.declared.error.TableError.TheVariants.{Text, Whole, Memory}
use Rattle.bus_table.specs.Drafts.{Draft}

-- An error at a line is the refusal of the reading; want of memory says nothing of it.
abbrev pub LineFails : TableError → Result Draft Refusal → Type 0
LineFails Memory reading = Unit {0}
LineFails (Text line reason) reading = reading ≡ Err (record { line = line; reason = reason })
LineFails (Whole reason) reading = ⊥

-- A call that took a line and left a draft.
abbrev pub StepGives : Draft → Result (Unit {0}) TableError → Result Draft Refusal → Type 0
StepGives new (Ok u) reading = reading ≡ Ok new
StepGives new (Err error) reading = LineFails error reading
