-- What a call keeps: what bus629-view promises, by how a call asks and answers.
use Rattle.bus_command.specs.Outside.{Call}
use Rattle.bus_command.specs.declared.status.Status.{Status}
use Rattle.bus_view.specs.Answering.{Answers, Refuses}
use Rattle.bus_view.specs.Asking.{Asks}
use Rattle.bus_view.specs.Claims.{Promises}

-- The call keeps what is promised of whatever it asks for.
abbrev pub Keeps : Call → Status → Type 0
Keeps call status = Promises (Asks call) (Answers call status) (Refuses call status) status
