use Rattle.bus_timers.proofs.TestLemmas.{may_start_is}
use Rattle.bus_timers.proofs.laws.test_decides.Goals as goal

pub returns : goal.returns
returns c = may_start_is
