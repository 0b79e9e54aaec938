use Rattle.bus_cable_plan.proofs.Right as lemmas
use Rattle.bus_cable_plan.proofs.laws.answers_are_right.Goals as goal

pub returns-clause-plan : goal.returns-clause-plan
returns-clause-plan c = lemmas.plans_are_right

pub returns-clause-best : goal.returns-clause-best
returns-clause-best c = lemmas.best_is_right

pub returns-clause-most : goal.returns-clause-most
returns-clause-most c = lemmas.most_borne_is_right
