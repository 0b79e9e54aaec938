-- How a call over texts in memory ends, where nothing outside can fail.
use Rattle.std.specs.Prelude.{◌≡◌, ◌≢◌, ℕ, List, ◌⊎◌}
use Rattle.bus_command.specs.declared.outcome.Outcome.TheVariants.{Usage}
use Rattle.bus_command.specs.declared.status.Status.{Status}
use Rattle.bus_command.specs.declared.status.Status.TheVariants.{NoMemory}
use Rattle.bus_tool.specs.Commands.{due}
use Rattle.bus_tool.specs.Refusals.{Outcome, status_of}

-- The status of this outcome, or that of want of memory in its place, which is never in place of usage.
abbrev pub IsStatusOf : Outcome → Status → Type 0
IsStatusOf outcome status = (status ≡ status_of outcome) ⊎ ((status ≡ NoMemory) × (outcome ≢ Usage))

-- The status of the outcome that is due.
abbrev pub IsStatusDue : List (List ℕ) → List ℕ → List ℕ → Status → Type 0
IsStatusDue words first second status = IsStatusOf (due words first second) status
