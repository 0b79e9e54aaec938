use Rattle.bus_clocks.proofs.Bridge.{starts_are_allowed, allowed_start, exact_timers_agree, courses_are_admissible}
use Rattle.bus_clocks.proofs.laws.timers_agree.Goals as goal

pub returns-clause-short : goal.returns-clause-short
returns-clause-short c = starts_are_allowed

pub returns-clause-long : goal.returns-clause-long
returns-clause-long c = allowed_start

pub returns-clause-exact : goal.returns-clause-exact
returns-clause-exact c = exact_timers_agree

pub returns-clause-admissible : goal.returns-clause-admissible
returns-clause-admissible c = courses_are_admissible
