-- The number with which the process ends.
use Rattle.std.specs.Prelude.{ℕ}
use Rattle.bus_command.specs.declared.status.Status.{Status}
use Rattle.bus_command.specs.declared.status.Status.TheVariants.{Done, Refused, Usage, TableRefused, InputRefused, ReadFault, WriteFault}
use Rattle.bus_command.specs.declared.status.Status.TheVariants.{NoMemory, TooLarge, TooLong}

-- The number of a status.
abbrev pub number_of : Status → ℕ
number_of Done = 0
number_of Refused = 1
number_of Usage = 2
number_of TableRefused = 3
number_of InputRefused = 4
number_of ReadFault = 5
number_of WriteFault = 6
number_of NoMemory = 7
number_of TooLarge = 8
number_of TooLong = 9
