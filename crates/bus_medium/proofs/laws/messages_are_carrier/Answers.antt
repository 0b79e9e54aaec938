use Rattle.bus_medium.proofs.StretchLemmas.{message_is_carrier, message_elapsed, message_waiting, no_start_during}
use Rattle.bus_medium.proofs.laws.messages_are_carrier.Goals as goal

pub returns : goal.returns
returns c = record {
  carrier = message_is_carrier;
  elapsed = message_elapsed;
  waiting = message_waiting;
  silent = no_start_during;
}
