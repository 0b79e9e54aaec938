use Rattle.bus_cable_plan.proofs.Sharing as lemmas
use Rattle.bus_cable_plan.proofs.laws.greatest_is_told.Goals as goal

pub returns-clause-borne : goal.returns-clause-borne
returns-clause-borne c = lemmas.fitting_is_borne

pub returns-clause-refuted : goal.returns-clause-refuted
returns-clause-refuted c = lemmas.refuted_is_not_borne
