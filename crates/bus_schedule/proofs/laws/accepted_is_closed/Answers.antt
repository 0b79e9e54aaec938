use Rattle.bus_schedule.proofs.RunLemmas.{accepted_is_closed}
use Rattle.bus_schedule.proofs.laws.accepted_is_closed.Goals as goal

pub returns : goal.returns
returns c = accepted_is_closed c.one_lawful_list.ensures.once
