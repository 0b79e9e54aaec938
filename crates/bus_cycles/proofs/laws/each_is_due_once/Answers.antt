use Rattle.bus_cycles.proofs.DrawnLemmas.{due_once}
use Rattle.bus_cycles.proofs.laws.each_is_due_once.Goals as goal

pub returns : goal.returns
returns c = due_once
