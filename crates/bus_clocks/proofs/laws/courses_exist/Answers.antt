use Rattle.bus_clocks.proofs.Existence.{courses_exist}
use Rattle.bus_clocks.proofs.Unique.{one_course}
use Rattle.bus_clocks.proofs.laws.courses_exist.Goals as goal

pub returns-clause-exist : goal.returns-clause-exist
returns-clause-exist c = courses_exist

pub returns-clause-one : goal.returns-clause-one
returns-clause-one c = one_course
