use Rattle.bus_tool.proofs.tolerance.put_tolerance.Goals as goal

pub returns-in-None : goal.returns-in-None
returns-in-None g c = rw c.in-None.is c.put.ensures
