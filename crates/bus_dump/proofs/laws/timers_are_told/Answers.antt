use Rattle.std.proofs.Common.{ap}
use Rattle.bus_dump.specs.Signals.{Bit}
use Rattle.bus_dump.specs.Timers.{Elapsed}
use Rattle.bus_dump.proofs.TimerLemmas.{timers_agree, timers_found}
use Rattle.bus_dump.proofs.laws.timers_are_told.Goals as goal

pub returns-clause-starts : goal.returns-clause-starts
returns-clause-starts c breach table list t sender valid i = ap (λ (e : Elapsed). Bit e.may) (timers_found table list t sender valid i)

pub returns-clause-timers : goal.returns-clause-timers
returns-clause-timers c = timers_agree c.test_decides.ensures
