-- What holds of all that is told of a list.
use Rattle.std.specs.Prelude.{◌≡◌, List, slice_get, Some}
use Rattle.bus_strings.specs.Messages.{Entry}
use Rattle.bus_shapes.specs.Sayings.{Sent}
use Rattle.bus_shapes.specs.Sending.{sent_of}

-- What is told of a transmission is told of an entry of the list.
pub record IsToldOf (list : List Entry) (sent : Sent) : Type 0 where
  pub entry : Entry
  pub at : slice_get list sent.at ≡ Some entry
  pub told : sent ≡ sent_of list sent.at entry
