use Rattle.bus_cycles.proofs.LaneLemmas.{neighbours_differ}
use Rattle.bus_cycles.proofs.laws.neighbours_differ.Goals as goal

pub returns : goal.returns
returns c = neighbours_differ
