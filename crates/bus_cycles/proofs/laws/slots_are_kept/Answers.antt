use Rattle.bus_cycles.proofs.ApartLemmas.{slots_kept}
use Rattle.bus_cycles.proofs.laws.slots_are_kept.Goals as goal

pub returns : goal.returns
returns c = slots_kept
