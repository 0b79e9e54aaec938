use Rattle.bus_medium.proofs.SendingLaws as sending
use Rattle.bus_medium.proofs.laws.sending_is_not_ready.Goals as goal

pub returns : goal.returns
returns c = sending.sending_is_not_ready
