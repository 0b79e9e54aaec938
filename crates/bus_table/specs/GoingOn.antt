-- What may stand where the reading of a text stops, told by the texts that begin as it does.
--   line   the number of the line that is refused, from 1; one past the last where the text ends too early
use Rattle.std.specs.Prelude.{◌≡◌, ℕ, ◌-◌, ◌↔◌, false, IsTrue, List, take, slice_get, Some, Err}
use Rattle.bus_text.specs.Lines.{fields_of, is_skipped, physical_lines}
use Rattle.bus_text.specs.Refusals.{Refusal}
use Rattle.bus_table.specs.declared.keyword.Keyword.{Keyword}
use Rattle.bus_table.specs.Drafts.{may_end}
use Rattle.bus_table.specs.Forms.{keyword_of}
use Rattle.bus_table.specs.Reading.{text_reading}
use Rattle.bus_table.specs.Stops.{may_stand, stop_of}
use Rattle.bus_table.specs.Tables.{Table}
use Rattle.bus_table.specs.Text.{IsTableText}

-- The lines of a text before this one.
abbrev pub lines_before : ℕ → List ℕ → List (List ℕ)
lines_before line text = take (line - 1) (physical_lines text)

-- There is a text of a table that is the same before this line, and whose line there begins with this keyword and isn't skipped.
pub record GoesOnWith (keyword : Keyword) (line : ℕ) (text : List ℕ) : Type 0 where
  pub table : Table
  pub other : List ℕ
  pub stands : IsTableText table other
  pub same : lines_before line other ≡ lines_before line text
  pub there : List ℕ
  pub stands_there : slice_get (physical_lines other) (line - 1) ≡ Some there
  pub read : is_skipped there ≡ false
  pub begins : keyword_of (fields_of there) ≡ Some keyword

-- There is a text of a table that is the same before this line, and has no more lines.
pub record EndsBefore (line : ℕ) (text : List ℕ) : Type 0 where
  pub table : Table
  pub other : List ℕ
  pub stands : IsTableText table other
  pub same : physical_lines other ≡ lines_before line text

-- What may stand at a refused line is exactly what goes on: a keyword with which some text of a table begins there that is the same before,
-- and the end where that is one.
pub record GoesOnAsTold (text : List ℕ) (line : ℕ) : Type 0 where
  pub keywords : (keyword : Keyword) → IsTrue (may_stand (stop_of text) keyword) ↔ GoesOnWith keyword line text
  pub end : IsTrue (may_end (stop_of text).stage) ↔ EndsBefore line text

-- So it is for every text that is refused at a line.
abbrev pub WhatMayStandGoesOn : Type 0
WhatMayStandGoesOn = (text : List ℕ) (refusal : Refusal) → text_reading text ≡ Err refusal → GoesOnAsTold text refusal.line
