-- What follows of the definitions. The contract of `laws::sents_are_told` says that this holds.
use Rattle.std.specs.Prelude.{List}
use Rattle.bus_strings.specs.Members.{In}
use Rattle.bus_strings.specs.Messages.{Entry}
use Rattle.bus_shapes.specs.Sayings.{Sent}
use Rattle.bus_shapes.specs.Sending.{sents}
use Rattle.bus_shapes.specs.SendingLaws.{IsToldOf}

-- All that is told of a list is told of entries of it.
abbrev pub SentsAreTold : Type 0
SentsAreTold = (list : List Entry) (sent : Sent) → In sent (sents list) → IsToldOf list sent
