use Rattle.bus_dump.proofs.SmallLemmas.{ids_differ, names_declared}
use Rattle.bus_dump.proofs.laws.names_are_declared.Goals as goal

pub returns-clause-names : goal.returns-clause-names
returns-clause-names c = names_declared

pub returns-clause-differ : goal.returns-clause-differ
returns-clause-differ c = ids_differ
