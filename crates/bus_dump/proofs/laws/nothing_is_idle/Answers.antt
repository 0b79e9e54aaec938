use Rattle.bus_dump.proofs.IdleLemmas.{idle}
use Rattle.bus_dump.proofs.laws.nothing_is_idle.Goals as goal

pub returns : goal.returns
returns c = idle
