-- What is claimed of `design`: `Means` says what its answer means.
use Rattle.std.specs.Prelude.{Bool, true, false}
use Rattle.bus_table.specs.Canonical.{table_text}
use Rattle.bus_table.specs.Text.{IsTableText}
use Rattle.bus_made.specs.declared.answer.Answer.{Answer}
use Rattle.bus_made.specs.declared.answer.Answer.TheVariants.{Made, Infeasible, Late}
use Rattle.bus_tool.specs.Replies.{Reply, TheTable, NoDesign}

-- Whether a table is made.
abbrev pub is_made : Answer → Bool
is_made (Made made) = true
is_made (Infeasible terminal blame) = false
is_made (Late lack) = false

-- What is answered: the table, or why there is none.
abbrev pub design_reply : Answer → Reply
design_reply (Made made) = TheTable made
design_reply (Infeasible terminal blame) = NoDesign (Infeasible terminal blame)
design_reply (Late lack) = NoDesign (Late lack)

-- The text that is written of a made table stands for it.
abbrev pub StandsWhereMade : Answer → Type 0
StandsWhereMade (Made made) = IsTableText made (table_text made)
StandsWhereMade (Infeasible terminal blame) = Unit {0}
StandsWhereMade (Late lack) = Unit {0}
