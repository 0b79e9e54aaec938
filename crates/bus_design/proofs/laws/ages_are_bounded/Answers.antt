use Rattle.bus_design.proofs.Ages.{ages_are_bounded, made_has_least_ages}
use Rattle.bus_design.proofs.laws.ages_are_bounded.Goals as goal

pub returns-clause-bounded : goal.returns-clause-bounded
returns-clause-bounded c = ages_are_bounded

pub returns-clause-least : goal.returns-clause-least
returns-clause-least c = made_has_least_ages
