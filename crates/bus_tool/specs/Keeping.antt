-- What a call keeps: what bus629 promises, by how a call asks and answers.
use Rattle.bus_command.specs.Outside.{Call}
use Rattle.bus_command.specs.declared.status.Status.{Status}
use Rattle.bus_tool.specs.Answering.{Answers}
use Rattle.bus_tool.specs.Asking.{Asks}
use Rattle.bus_tool.specs.Promises.{Promises}
use Rattle.bus_tool.specs.Spellings.{Spellings}

-- The call keeps what is promised of whatever it asks for.
abbrev pub Keeps : Call → Status → Type 0
Keeps call status = Promises (Asks call) (Answers call status) status

-- And what the texts of its replies tell.
abbrev pub Spells : Call → Type 0
Spells call = Spellings (Asks call)
