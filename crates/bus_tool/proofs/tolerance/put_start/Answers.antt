use Rattle.bus_tool.proofs.tolerance.put_start.Goals as goal

pub returns-then-anyhow : goal.returns-then-anyhow
returns-then-anyhow g c = rw c.if-anyhow.true c.put.ensures

pub returns-else-anyhow : goal.returns-else-anyhow
returns-else-anyhow g c = rw c.if-anyhow.false c.put-else-anyhow.ensures
