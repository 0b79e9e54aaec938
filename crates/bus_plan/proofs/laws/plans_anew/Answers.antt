use Rattle.bus_plan.proofs.Anew.{planned_anew}
use Rattle.bus_plan.proofs.laws.plans_anew.Goals as goal

pub returns : goal.returns
returns c = planned_anew
