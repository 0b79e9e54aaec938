-- The transmissions of a list that begin in a window.
use Rattle.std.specs.Prelude.{Bool, List, filter}
use Rattle.bus_strings.specs.Messages.{Entry}
use Rattle.bus_shapes.specs.declared.sent.Sent.{Sent}
use Rattle.bus_shapes.specs.Sending.{sents}
use Rattle.bus_trace.specs.Windows.{Window, holds}

-- Whether a window holds the moment of a transmission.
abbrev pub is_shown : Window → Sent → Bool
is_shown window sent = holds window sent.moment

-- What is told of those that begin in a window, in order.
abbrev pub shown : Window → List Entry → List Sent
shown window list = filter (is_shown window) (sents list)
