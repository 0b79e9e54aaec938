use Rattle.bus_picture.proofs.CountLemmas.{bus_is_counted, lanes_are_counted}
use Rattle.bus_picture.proofs.laws.counts_are_shown.Goals as goal

pub returns-clause-bus : goal.returns-clause-bus
returns-clause-bus c = bus_is_counted

pub returns-clause-lanes : goal.returns-clause-lanes
returns-clause-lanes c = lanes_are_counted c.each_is_in_one_row.ensures.lanes
