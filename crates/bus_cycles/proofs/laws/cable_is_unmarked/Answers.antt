use Rattle.bus_cycles.proofs.CableLemmas.{cable_unmarked}
use Rattle.bus_cycles.proofs.laws.cable_is_unmarked.Goals as goal

pub returns : goal.returns
returns c = cable_unmarked
