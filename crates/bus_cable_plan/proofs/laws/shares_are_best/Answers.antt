use Rattle.bus_cable_plan.proofs.Sharing as lemmas
use Rattle.bus_cable_plan.proofs.laws.shares_are_best.Goals as goal

pub returns-clause-borne : goal.returns-clause-borne
returns-clause-borne c = lemmas.shared_bears

pub returns-clause-most : goal.returns-clause-most
returns-clause-most c = lemmas.none_share_more

pub returns-clause-most_in_order : goal.returns-clause-most_in_order
returns-clause-most_in_order c = lemmas.none_share_more_in_order
