-- How the program ends.
use Rattle.std.specs.Prelude.{ℕ, Result, Ok, Err}
use Rattle.bus_command.specs.declared.status.Status.{Status}
use Rattle.bus_command.specs.Statuses.{number_of}

-- The number with which the process ends: that of the command's status, or of why no command began.
abbrev pub exit_number : Result Status Status → ℕ
exit_number (Ok status) = number_of status
exit_number (Err status) = number_of status
