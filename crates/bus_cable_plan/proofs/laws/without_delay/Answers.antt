use Rattle.bus_cable_plan.proofs.NoDelay as lemmas
use Rattle.bus_cable_plan.proofs.laws.without_delay.Goals as goal

pub returns : goal.returns
returns c = lemmas.without_delay
