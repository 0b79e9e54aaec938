use Rattle.bus_cycles.proofs.DueLemmas.{begin_where_due, dues_marked}
use Rattle.bus_cycles.proofs.laws.dues_are_marked.Goals as goal

pub returns-clause-marked : goal.returns-clause-marked
returns-clause-marked c = dues_marked

pub returns-clause-boxes : goal.returns-clause-boxes
returns-clause-boxes c = begin_where_due
