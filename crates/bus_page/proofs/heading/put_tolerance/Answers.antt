use Rattle.bus_page.proofs.heading.put_tolerance.Goals as goal

pub returns-in-None : goal.returns-in-None
returns-in-None g c = rw c.in-None.is c.put.ensures
