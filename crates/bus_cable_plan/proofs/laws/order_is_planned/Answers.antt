use Rattle.bus_cable_plan.proofs.Outcome as lemmas
use Rattle.bus_cable_plan.proofs.laws.order_is_planned.Goals as goal

pub returns-clause-bears : goal.returns-clause-bears
returns-clause-bears c = lemmas.order_is_planned

pub returns-clause-kept : goal.returns-clause-kept
returns-clause-kept c = lemmas.order_is_kept
