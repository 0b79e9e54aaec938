use Rattle.bus_cable_plan.proofs.Bound as lemmas
use Rattle.bus_cable_plan.proofs.laws.borne_fits_turns.Goals as goal

pub returns : goal.returns
returns c = lemmas.borne_fits_turns
