use Rattle.bus_cycles.proofs.CutLemmas.{whole_seen}
use Rattle.bus_cycles.proofs.laws.whole_are_seen.Goals as goal

pub returns : goal.returns
returns c = whole_seen
