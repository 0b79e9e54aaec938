use Rattle.bus_filter.proofs.TakerLemmas.{by_number}
use Rattle.bus_filter.proofs.laws.received_by_number.Goals as goal

pub returns : goal.returns
returns c = by_number
