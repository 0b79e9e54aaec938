use Rattle.bus_picture.proofs.AreaLemmas.{boxes_lie_in_rows}
use Rattle.bus_picture.proofs.CountLemmas.{garbled_are_uncovered}
use Rattle.bus_picture.proofs.laws.garbled_are_uncovered.Goals as goal

pub returns-clause-rows : goal.returns-clause-rows
returns-clause-rows c = garbled_are_uncovered

pub returns-clause-boxes : goal.returns-clause-boxes
returns-clause-boxes c = boxes_lie_in_rows
