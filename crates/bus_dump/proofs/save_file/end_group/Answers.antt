use Rattle.bus_dump.proofs.save_file.end_group.Goals as goal

pub returns-then-folded : goal.returns-then-folded
returns-then-folded g c = rw c.if-folded.true c.put.ensures

pub returns-else-folded : goal.returns-else-folded
returns-else-folded g c = rw c.if-folded.false c.put-else-folded.ensures
