use Rattle.bus_page.proofs.heading.put_heading.Goals as goal

pub returns-then-accepted : goal.returns-then-accepted
returns-then-accepted g c = rw c.if-accepted.true c.put.ensures

pub returns-else-accepted : goal.returns-else-accepted
returns-else-accepted g c = rw c.if-accepted.false c.put-else-accepted.ensures
