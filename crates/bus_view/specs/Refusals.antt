-- What bus629-view refuses beside what every command does: where, with which status, and by which line.
use Rattle.std.specs.Prelude.{ℕ, List, ◌++◌, codes}
use Rattle.std.specs.Fmt.{decimal}
use Rattle.bus_command.specs.declared.outcome.Outcome.{Outcome as OutcomeWith}
use Rattle.bus_command.specs.declared.outcome.Outcome.TheVariants.{Own}
use Rattle.bus_command.specs.declared.refusal.Place.TheVariants.{Second}
use Rattle.bus_command.specs.declared.status.Status.{Status}
use Rattle.bus_command.specs.declared.status.Status.TheVariants.{InputRefused}
use Rattle.bus_command.specs.Outcomes as common
use Rattle.bus_command.specs.Outcomes.{error_line}
pub use Rattle.bus_view.specs.declared.refusal.Doubled.{Doubled}

-- What a command came to.
abbrev pub Outcome : Type 0
Outcome = OutcomeWith Doubled

-- What a command comes to that refuses a trace for the entry of this place.
abbrev pub refuse : ℕ → Outcome
refuse entry = Own Second (record { entry = entry })

-- How the program ends.
abbrev pub ends_of : Doubled → Status
ends_of doubled = InputRefused

-- The line of the refusal.
abbrev pub line_of : Doubled → List ℕ
line_of doubled = error_line InputRefused (codes "trace entry " ++ (decimal doubled.entry ++ codes " Doubled"))

-- How the program ends with an outcome.
abbrev pub status_of : Outcome → Status
status_of outcome = common.status_of ends_of outcome
