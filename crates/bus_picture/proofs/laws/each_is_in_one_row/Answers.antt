use Rattle.bus_picture.proofs.CountLemmas.{each_is_in_one_lane, each_is_on_the_bus}
use Rattle.bus_picture.proofs.laws.each_is_in_one_row.Goals as goal

pub returns-clause-bus : goal.returns-clause-bus
returns-clause-bus c = each_is_on_the_bus

pub returns-clause-lanes : goal.returns-clause-lanes
returns-clause-lanes c = each_is_in_one_lane c.lanes_are_terminals.ensures c.sents_are_told.ensures
