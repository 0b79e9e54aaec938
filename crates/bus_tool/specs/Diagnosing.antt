-- What `explain T F` answers and writes: where the table in T is accepted, what is found of the text in F; else what `explain T` writes.
use Rattle.std.specs.Prelude.{◌≡◌, ℕ, List, Result, Ok, Err, if◌then◌else◌}
use Rattle.bus_text.specs.AllOf.{◌>>=◌}
use Rattle.bus_table.specs.declared.error.TableError.{TableError}
use Rattle.bus_table.specs.Reading.{answer_of}
use Rattle.bus_table.specs.Tables.{Table}
use Rattle.bus_regime.specs.Verdicts.{verdict_of, is_accepted}
use Rattle.bus_diagnosis.specs.declared.diagnosis.Diagnosis.{Diagnosis}
use Rattle.bus_diagnosis.specs.Diagnoses.{is_right, diagnosis_of}
use Rattle.bus_diagnosis.specs.Sentences.{diagnosis_text}
use Rattle.bus_command.specs.declared.outcome.Outcome.TheVariants.{Done, Answered}
use Rattle.bus_command.specs.Due.{text_within, text_due}
use Rattle.bus_tool.specs.Explanations.{error_explained, table_explained}
use Rattle.bus_trace.specs.Limits.{trace_limit}
use Rattle.bus_tool.specs.Refusals.{Outcome}

-- A text that may be one of a table, and the text that stands beside it.
pub record Beside : Type 0 where
  pub table : List ℕ
  pub text : List ℕ

-- The pair of these.
abbrev pub beside : List ℕ → List ℕ → Beside
beside table text = record { table = table; text = text }

-- Both texts, which are read whole.
abbrev pub beside_due : List ℕ → List ℕ → Result Beside Outcome
beside_due first second = text_due 1 first >>= λ table. text_within trace_limit 2 second >>= λ text. Ok (beside table text)

-- Yes where nothing is wrong, else no.
abbrev pub diagnosis_outcome : Diagnosis → Outcome
diagnosis_outcome found = if is_right found then Done else Answered

-- The answer to a table and a text beside it.
abbrev pub table_beside : Table → List ℕ → Outcome
table_beside table text = if is_accepted (verdict_of table) then diagnosis_outcome (diagnosis_of table text) else Answered

-- The answer to what a text gives and a text beside it.
abbrev pub given_beside : Result Table TableError → List ℕ → Outcome
given_beside (Ok table) text = table_beside table text
given_beside (Err error) text = Answered

-- The answer to both texts.
abbrev pub beside_answer : Beside → Outcome
beside_answer texts = given_beside (answer_of texts.table) texts.text

-- What is written of a table and a text beside it.
abbrev pub table_told : Table → List ℕ → List ℕ
table_told table text = if is_accepted (verdict_of table) then diagnosis_text (diagnosis_of table text) else table_explained table

-- What is written of what a text gives, and of a text beside it.
abbrev pub given_told : Result Table TableError → Beside → List ℕ
given_told (Ok table) texts = table_told table texts.text
given_told (Err error) texts = error_explained error texts.table

-- What is written of both texts.
abbrev pub beside_told : Beside → List ℕ
beside_told texts = given_told (answer_of texts.table) texts

-- The same, of a text that is written.
abbrev pub IsToldBeside : Beside → List ℕ → Type 0
IsToldBeside texts written = written ≡ beside_told texts
