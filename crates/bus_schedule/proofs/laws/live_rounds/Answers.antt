use Rattle.bus_schedule.proofs.LiveLemmas.{live_rounds_are_lawful, live_rounds_end}
use Rattle.bus_schedule.proofs.RunLemmas.{even_rounds_are_closed}
use Rattle.bus_schedule.proofs.laws.live_rounds.Goals as goal

pub returns-clause-lawful : goal.returns-clause-lawful
returns-clause-lawful c = live_rounds_are_lawful

pub returns-clause-end : goal.returns-clause-end
returns-clause-end c = live_rounds_end

pub returns-clause-even : goal.returns-clause-even
returns-clause-even c = even_rounds_are_closed
