use Rattle.bus_shapes.proofs.LaterLemmas.{later_is_next, none_is_later}
use Rattle.bus_shapes.proofs.laws.late_starts_are_next.Goals as goal

pub returns-clause-later : goal.returns-clause-later
returns-clause-later c = later_is_next

pub returns-clause-none : goal.returns-clause-none
returns-clause-none c = none_is_later
