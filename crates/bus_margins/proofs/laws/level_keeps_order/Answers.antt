use Rattle.bus_margins.proofs.Levels.{level_is_room, level_keeps_order}
use Rattle.bus_margins.proofs.Apart.{apart_is_a_round}
use Rattle.bus_margins.proofs.laws.level_keeps_order.Goals as goal

pub returns-clause-exact : goal.returns-clause-exact
returns-clause-exact c = level_is_room

pub returns-clause-order : goal.returns-clause-order
returns-clause-order c = level_keeps_order

pub returns-clause-apart : goal.returns-clause-apart
returns-clause-apart c = apart_is_a_round
