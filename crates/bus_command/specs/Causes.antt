-- The cause of each refusal that every command has, by the relation between a value and its texts and not by how they are read. Which of
-- several comes is the order of `Due`.
use Rattle.std.specs.Prelude.{◌≡◌, ℕ, IsTrue, List, Some, Ok, Err}
use Rattle.bus_strings.specs.Items.{Item}
use Rattle.bus_strings.specs.Grammar.{IsMessagesText}
use Rattle.bus_table.specs.declared.fit.FitError.{FitError}
use Rattle.bus_table.specs.declared.error.WholeReason.{WholeReason}
use Rattle.bus_table.specs.Tables.{Table}
use Rattle.bus_table.specs.Fits.{items_fit}
use Rattle.bus_table.specs.Text.{IsTableText}
use Rattle.bus_table.specs.Valid.{is_valid}
use Rattle.bus_table.specs.Whole.{whole_refusal}
use Rattle.bus_trace.specs.Traces.{Recording, HoldsTrace}
use Rattle.bus_trace.specs.Limits.{trace_limit}
use Rattle.bus_command.specs.declared.outcome.Outcome.{Outcome}
use Rattle.bus_command.specs.declared.outcome.Outcome.TheVariants as outcome

-- No table has the text.
abbrev pub IsNoTableText : List ℕ → Type 0
IsNoTableText text = (table : Table) → IsTableText table text → ⊥

-- A table has the text, and this is the first whole reason that applies to it.
pub record IsWrongTableText (reason : WholeReason) (text : List ℕ) : Type 0 where
  pub table : Table
  pub stands : IsTableText table text
  pub why : whole_refusal table ≡ Some reason

-- The text is one of a valid table.
pub record IsValidText (table : Table) (text : List ℕ) : Type 0 where
  pub stands : IsTableText table text
  pub valid : IsTrue (is_valid table)

-- No items have the text.
abbrev pub IsNoMessagesText : List ℕ → Type 0
IsNoMessagesText text = (items : List Item) → IsMessagesText items text → ⊥

-- A valid table has the first text, and items have the second, of which this is the first that doesn't fit the table.
pub record IsUnfitText (error : FitError) (first second : List ℕ) : Type 0 where
  pub table : Table
  pub items : List Item
  pub table_is : IsValidText table first
  pub items_stand : IsMessagesText items second
  pub why : items_fit table items ≡ Err error

-- No trace stands at the front of the text, within its limit.
abbrev pub IsNoTraceText : List ℕ → Type 0
IsNoTraceText text = (trace : Recording) → HoldsTrace trace_limit text trace → ⊥

-- A valid table has the first text, and items that fit it have the second, and this holds of them.
pub record AreTextsWith (Holds : Table → List Item → Type 0) (first second : List ℕ) : Type 0 where
  pub table : Table
  pub items : List Item
  pub table_is : IsValidText table first
  pub items_stand : IsMessagesText items second
  pub fit : items_fit table items ≡ Ok tt
  pub why : Holds table items

-- A valid table has the first text, and a trace stands at the front of the second, within its limit, and this holds of them.
pub record AreTracedWith (Holds : Table → Recording → Type 0) (first second : List ℕ) : Type 0 where
  pub table : Table
  pub trace : Recording
  pub table_is : IsValidText table first
  pub trace_stands : HoldsTrace trace_limit second trace
  pub why : Holds table trace

-- The cause of an outcome that refuses a text; a refusal of the program's own has one of its own. An answer has its text, and a failure of
-- the outside its count; of want of memory nothing is known.
abbrev pub RefusesTexts : {R : Type 0} → (R → List ℕ → List ℕ → Type 0) → Outcome R → List ℕ → List ℕ → Type 0
RefusesTexts Cause outcome.Done first second = Unit {0}
RefusesTexts Cause outcome.Answered first second = Unit {0}
RefusesTexts Cause outcome.Usage first second = Unit {0}
RefusesTexts Cause (outcome.TableText line reason) first second = IsNoTableText first
RefusesTexts Cause (outcome.TableWhole reason) first second = IsWrongTableText reason first
RefusesTexts Cause (outcome.MessagesText line reason) first second = IsNoMessagesText second
RefusesTexts Cause (outcome.Unfit error) first second = IsUnfitText error first second
RefusesTexts Cause (outcome.TraceText byte reason) first second = IsNoTraceText second
RefusesTexts Cause (outcome.Own place why) first second = Cause why first second
RefusesTexts Cause (outcome.ReadFault source) first second = Unit {0}
RefusesTexts Cause outcome.WriteFault first second = Unit {0}
RefusesTexts Cause outcome.NoMemory first second = Unit {0}
RefusesTexts Cause (outcome.TooLarge source) first second = Unit {0}
