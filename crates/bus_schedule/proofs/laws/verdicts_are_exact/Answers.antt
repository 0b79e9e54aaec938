use Rattle.bus_schedule.proofs.WitnessLemmas.{short_cycles_start_early, the_refused_fail, the_settled_are_accepted}
use Rattle.bus_schedule.proofs.laws.verdicts_are_exact.Goals as goal

pub returns-clause-settled : goal.returns-clause-settled
returns-clause-settled c = the_settled_are_accepted c.fitting_items_give_hands.ensures c.accepted_is_closed.ensures

pub returns-clause-refused : goal.returns-clause-refused
returns-clause-refused c = the_refused_fail c.fitting_items_give_hands.ensures

pub returns-clause-early : goal.returns-clause-early
returns-clause-early c = short_cycles_start_early c.fitting_items_give_hands.ensures
