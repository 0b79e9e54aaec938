use Rattle.bus_cycles.proofs.DueLemmas.{ends_named}
use Rattle.bus_cycles.proofs.laws.ends_are_named.Goals as goal

pub returns : goal.returns
returns c = ends_named
