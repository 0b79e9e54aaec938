use Rattle.bus_dump.proofs.SingleLemmas.{lawful_single}
use Rattle.bus_dump.proofs.laws.lawful_is_single.Goals as goal

pub returns : goal.returns
returns c = lawful_single
