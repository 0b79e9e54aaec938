-- What a call answered: what reading gives, unless memory ran out.
use Rattle.std.specs.Prelude.{◌≡◌, ℕ, List, Some, Result, Ok, Err}
use Rattle.bus_table.specs.declared.error.TableError.{TableError}
use Rattle.bus_table.specs.declared.error.TableError.TheVariants.{Text, Whole, Memory}
use Rattle.bus_table.specs.Tables.{Table}
use Rattle.bus_table.specs.Text.{IsTableText}
use Rattle.bus_table.specs.Whole.{whole_refusal}

-- An error is that of the answer that is due; want of memory says nothing of it.
abbrev pub Fails : TableError → Result Table TableError → Type 0
Fails Memory due = Unit {0}
Fails (Text line reason) due = due ≡ Err (Text line reason)
Fails (Whole reason) due = due ≡ Err (Whole reason)

-- The answer is the one that is due, unless memory ran out.
abbrev pub Answers : Result Table TableError → Result Table TableError → Type 0
Answers (Ok table) due = due ≡ Ok table
Answers (Err error) due = Fails error due

-- The cause of each refusal: no table has the text; or a table has it, and this is the first whole reason that applies to it.
abbrev pub Refuses : List ℕ → TableError → Type 0
Refuses text Memory = Unit {0}
Refuses text (Text line reason) = (table : Table) → IsTableText table text → ⊥
Refuses text (Whole reason) = (table : Table) × IsTableText table text × (whole_refusal table ≡ Some reason)
