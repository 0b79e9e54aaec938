-- How a call is told whose texts are right, and what it answers: by the relation between a value and its texts, not by how they are read.
use Rattle.std.specs.Prelude.{◌≡◌, ℕ, ◌≤◌, IsTrue, List, [], ◌∷◌, length, Option, Some, None, Ok, ◌⊎◌}
use Rattle.std.specs.Io.KnownBytes.{append_known}
use Rattle.bus_options.specs.Options.{ArePlain}
use Rattle.bus_outer.specs.Faults.{Rose}
use Rattle.bus_strings.specs.Items.{Item}
use Rattle.bus_strings.specs.Grammar.{IsMessagesText}
use Rattle.bus_table.specs.Tables.{Table}
use Rattle.bus_table.specs.Fits.{items_fit}
use Rattle.bus_table.specs.Text.{IsTableText}
use Rattle.bus_table.specs.Valid.{is_valid}
use Rattle.bus_trace.specs.Traces.{Recording, HoldsTrace}
use Rattle.bus_trace.specs.Limits.{trace_limit}
use Rattle.bus_command.specs.declared.status.Status.{Status}
use Rattle.bus_command.specs.declared.status.Status.TheVariants.{NoMemory}
use Rattle.bus_command.specs.Outside.{Seen, Outside, Call}
use Rattle.bus_command.specs.Readers.{Named, Reader, entire, one_source, by_trace, two_sources, text_limit}

-- No count of faults of a source rises that is named.
abbrev pub IsUndisturbed : Option Reader → Seen → Seen → Type 0
IsUndisturbed None old new = Unit {0}
IsUndisturbed (Some reader) old new = Rose old.faults new.faults → ⊥

-- Nothing outside fails: no count of faults of a named source, or of `out`, rises.
pub record NothingFails (named : Named) (before after : Outside) : Type 0 where
  pub first : IsUndisturbed named.first before.sources.first after.sources.first
  pub second : IsUndisturbed named.second before.sources.second after.sources.second
  pub out : Rose before.out.faults after.out.faults → ⊥

-- A source tells its bytes, and they are a text, within its limit, of a valid table.
pub record TellsTable (table : Table) (seen : Seen) : Type 0 where
  pub text : List ℕ
  pub told : seen.bytes ≡ Some text
  pub short : length text ≤ text_limit
  pub stands : IsTableText table text
  pub valid : IsTrue (is_valid table)

-- A source tells its bytes, and they are a text, within its limit, of items that fit the table.
pub record TellsItems (table : Table) (items : List Item) (seen : Seen) : Type 0 where
  pub text : List ℕ
  pub told : seen.bytes ≡ Some text
  pub short : length text ≤ text_limit
  pub stands : IsMessagesText items text
  pub fit : items_fit table items ≡ Ok tt

-- A source tells its bytes, and at their front stands the text of a trace, within its limit, whatever follows it.
pub record TellsTrace (trace : Recording) (seen : Seen) : Type 0 where
  pub stream : List ℕ
  pub told : seen.bytes ≡ Some stream
  pub stands : HoldsTrace trace_limit stream trace

-- The answer: this status, and this text behind what `out` held; or memory was refused, and nothing is written.
abbrev pub Answers : Status → (List ℕ → Type 0) → Call → Status → Type 0
Answers answer IsIt call status =
    ((status ≡ answer) × ((text : List ℕ) × IsIt text × (call.after.out.bytes ≡ append_known call.before.out.bytes text)))
    ⊎ ((status ≡ NoMemory) × (call.after.out.bytes ≡ call.before.out.bytes))

-- Nothing is written, and the status is this one, or memory was refused.
pub record Refuses (refusal : Status) (call : Call) (status : Status) : Type 0 where
  pub ends : (status ≡ refusal) ⊎ (status ≡ NoMemory)
  pub unwritten : call.after.out.bytes ≡ call.before.out.bytes

-- ---- the calls of a group
-- The words are a command and one more, which isn't an option.
pub record IsFormOfOne (command : List ℕ) (words : List (List ℕ)) : Type 0 where
  pub path : List ℕ
  pub plain : ArePlain (command ∷ path ∷ [])
  pub form : words ≡ command ∷ path ∷ []

-- The words are a command, two more, which aren't options, and these behind them.
pub record IsFormOfTwo (command : List ℕ) (further words : List (List ℕ)) : Type 0 where
  pub first : List ℕ
  pub second : List ℕ
  pub plain : ArePlain (command ∷ first ∷ second ∷ [])
  pub form : words ≡ command ∷ first ∷ second ∷ further

-- A call of a command on a text of a valid table, in which nothing outside fails.
pub record IsOfTable (command : List ℕ) (table : Table) (call : Call) : Type 0 where
  pub form : IsFormOfOne command call.words
  pub table_told : TellsTable table call.before.sources.first
  pub undisturbed : NothingFails (one_source entire) call.before call.after

-- A call of a command, with these words behind, on texts of a valid table and of items that fit it, in which nothing outside fails.
pub record IsOfItems (command : List ℕ) (further : List (List ℕ)) (table : Table) (items : List Item) (call : Call) : Type 0 where
  pub form : IsFormOfTwo command further call.words
  pub table_told : TellsTable table call.before.sources.first
  pub items_told : TellsItems table items call.before.sources.second
  pub undisturbed : NothingFails (two_sources entire entire) call.before call.after

-- A call of a command, with these words behind, on texts of a valid table and of a trace, in which nothing outside fails.
pub record IsOfTraced (command : List ℕ) (further : List (List ℕ)) (table : Table) (trace : Recording) (call : Call) : Type 0 where
  pub form : IsFormOfTwo command further call.words
  pub table_told : TellsTable table call.before.sources.first
  pub trace_told : TellsTrace trace call.before.sources.second
  pub undisturbed : NothingFails by_trace call.before call.after
