use Rattle.bus_schedule.proofs.ShortLemmas.{witnesses_are_short}
use Rattle.bus_schedule.proofs.WitnessLemmas.{witnesses_are_even}
use Rattle.bus_schedule.proofs.laws.witnesses_have_schedules.Goals as goal

pub returns-clause-even : goal.returns-clause-even
returns-clause-even c = witnesses_are_even c.fitting_items_give_hands.ensures

pub returns-clause-short : goal.returns-clause-short
returns-clause-short c = witnesses_are_short
