-- What `cable` takes from its sources.
use Rattle.std.specs.Prelude.{◌≡◌, ◌⊎◌}
use Rattle.bus_table.specs.Tables.{Table}
use Rattle.bus_table.specs.Hands.{hands_of}
use Rattle.bus_tool.specs.declared.inputs.OnCable.{OnCable}
use Rattle.bus_tool.specs.declared.inputs.Wired.{Wired}
use Rattle.bus_table.specs.declared.fit.FitError.{FitError}
use Rattle.bus_command.specs.declared.outcome.Outcome.TheVariants.{NoMemory}
use Rattle.bus_tool.specs.Refusals.{Outcome, refuse, CableUnfit}
use Rattle.bus_tool.specs.Due.{CableRead, CableInputs, cable_hands}

-- An item doesn't fit, or memory was refused.
abbrev pub IsUndealt : Outcome → Type 0
IsUndealt outcome = (outcome ≡ NoMemory) ⊎ ((error : FitError) × (outcome ≡ refuse (CableUnfit error)))

-- A cable, and the hands that the items behind it give the senders of a table.
pub record IsWired (table : Table) (wired : Wired) (read : CableRead) : Type 0 where
  pub cable : wired.cable ≡ read.0
  pub hands : wired.hands.items ≡ hands_of table read.1

-- A table, a cable, and the hands that the items give its senders.
pub record IsTakenOnCable (on : OnCable) (inputs : CableInputs) : Type 0 where
  pub table : on.table ≡ inputs.table
  pub cable : on.cable ≡ inputs.cable
  pub hands : on.hands.items ≡ cable_hands inputs
