use Rattle.bus_cycles.proofs.ListingLemmas.{breach_is_listed, cut_are_listed, dues_are_listed, faults_are_listed, garbled_are_listed, plain_are_listed}
use Rattle.bus_cycles.proofs.laws.legend_lists_what_is_drawn.Goals as goal

pub returns-clause-plain : goal.returns-clause-plain
returns-clause-plain c = plain_are_listed

pub returns-clause-garbled : goal.returns-clause-garbled
returns-clause-garbled c = garbled_are_listed

pub returns-clause-breach : goal.returns-clause-breach
returns-clause-breach c = breach_is_listed

pub returns-clause-faults : goal.returns-clause-faults
returns-clause-faults c = faults_are_listed

pub returns-clause-cut : goal.returns-clause-cut
returns-clause-cut c = cut_are_listed

pub returns-clause-dues : goal.returns-clause-dues
returns-clause-dues c = dues_are_listed
