use Rattle.bus_table.specs.Turns.{turn_order}
use Rattle.bus_margins.proofs.TellingLemmas.{rooms_told}
use Rattle.bus_margins.proofs.telling.rooms.Goals as goal

pub returns : goal.returns
returns c =
    rooms_told c.args.bounds c.args.table.now (turn_order c.args.table.now) _ c.least_of.ensures c.least_behind.ensures c.least_pair.ensures
    c.least_pair-2.ensures c.least_waiting.ensures c.least_joining.ensures c.least_of-2.ensures c.least_cycle.ensures
