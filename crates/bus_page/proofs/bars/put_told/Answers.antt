use Rattle.bus_page.proofs.bars.put_told.Goals as goal

pub returns-then-none : goal.returns-then-none
returns-then-none g c = rw c.if-none.true c.put.ensures

pub returns-else-none : goal.returns-else-none
returns-else-none g c = rw c.if-none.false c.put_explained.ensures
