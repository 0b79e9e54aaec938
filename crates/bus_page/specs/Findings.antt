-- What is told of a table on its page.
use Rattle.std.specs.Prelude.{◌≡◌, ℕ, ◌<◌, ◌≤◌, ◌^◌, false, Option}
use Rattle.bus_table.specs.Tables.{Table}
use Rattle.bus_regime.specs.Verdicts.{verdict_of, is_accepted}
use Rattle.bus_advice.specs.Advices.{advices_of, periodic_table}
use Rattle.bus_cable_plan.specs.Answers.{most_borne_of}
use Rattle.bus_explain.specs.Accepted.{IsAcceptedWith}
use Rattle.bus_reach.specs.Bearing.{tolerance_of}
use Rattle.bus_reach.specs.Limits.{limits_of}
use Rattle.bus_page.specs.Slots.{slots_of}
use Rattle.bus_page.specs.Turns.{turns_of}
pub use Rattle.bus_page.specs.declared.finding.Figures.{Figures}
pub use Rattle.bus_page.specs.declared.finding.Refusal.{Refusal}
pub use Rattle.bus_page.specs.declared.finding.Findings.{Findings}
pub use Rattle.bus_page.specs.declared.finding.Findings.TheVariants.{Accepted, Refused}

-- The figures of an accepted table.
pub record AreFigures (table : Table) (figures : Figures) : Type 0 where
  pub verdict : figures.verdict ≡ verdict_of table
  pub accepted : IsAcceptedWith table figures.least figures.most
  pub tolerance : figures.tolerance ≡ tolerance_of table
  pub offsets : figures.offsets ≡ most_borne_of table
  pub limits : figures.limits.items ≡ limits_of table
  pub advices : figures.advices.items ≡ advices_of table
  pub turns : figures.turns.items ≡ turns_of table
  pub slots : figures.slots.items ≡ slots_of table

-- What is told of a refused one.
pub record IsRefusalOf (table : Table) (refusal : Refusal) : Type 0 where
  pub verdict : refusal.verdict ≡ verdict_of table
  pub refused : is_accepted (verdict_of table) ≡ false
  pub advices : refusal.advices.items ≡ advices_of table
  pub planned : refusal.planned ≡ periodic_table table

-- What is told of a table.
abbrev pub AreFindings : Table → Findings → Type 0
AreFindings table (Accepted figures) = AreFigures table figures
AreFindings table (Refused refusal) = IsRefusalOf table refusal
