use Rattle.bus_cycles.proofs.BreachLemmas.{at_its_moment}
use Rattle.bus_cycles.proofs.laws.breach_is_at_its_moment.Goals as goal

pub returns : goal.returns
returns c = at_its_moment
