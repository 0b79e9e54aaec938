use Rattle.bus_trace.proofs.Walks.{start_is}
use Rattle.bus_trace.proofs.walk.Walk.new.Goals as goal

pub invariant_of-result : goal.invariant_of-result
invariant_of-result c = rw (c.new.ensures, c.requires) start_is
