use Rattle.bus_table.proofs.FillingLaws.{filling_fits, filling_shortest, filling_longest}
use Rattle.bus_table.proofs.laws.filling_messages_fit.Goals as goal

pub returns-clause-fits : goal.returns-clause-fits
returns-clause-fits c = filling_fits

pub returns-clause-shortest : goal.returns-clause-shortest
returns-clause-shortest c = filling_shortest

pub returns-clause-longest : goal.returns-clause-longest
returns-clause-longest c = filling_longest
