use Rattle.bus_dump.proofs.StartLemmas.{starts_seen}
use Rattle.bus_dump.proofs.laws.starts_are_seen.Goals as goal

pub returns : goal.returns
returns c = starts_seen c.test_decides.ensures
