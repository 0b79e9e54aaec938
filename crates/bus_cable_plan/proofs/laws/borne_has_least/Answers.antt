use Rattle.bus_cable_plan.proofs.Bound as lemmas
use Rattle.bus_cable_plan.proofs.laws.borne_has_least.Goals as goal

pub returns : goal.returns
returns c = lemmas.borne_has_least
