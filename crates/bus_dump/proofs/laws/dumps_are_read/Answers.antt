use Rattle.bus_dump.proofs.SmallLemmas.{dump_read}
use Rattle.bus_dump.proofs.laws.dumps_are_read.Goals as goal

pub returns : goal.returns
returns c = dump_read
