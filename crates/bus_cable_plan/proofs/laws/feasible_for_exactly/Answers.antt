use Rattle.bus_cable_plan.proofs.Bound as lemmas
use Rattle.bus_cable_plan.proofs.laws.feasible_for_exactly.Goals as goal

pub returns : goal.returns
returns c = lemmas.feasible_for_exactly
