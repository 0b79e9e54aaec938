use Rattle.bus_tolerance.proofs.Tolerant.{tells_level, tells_any}
use Rattle.bus_tolerance.proofs.laws.tolerance_tells_level.Goals as goal

pub returns-clause-level : goal.returns-clause-level
returns-clause-level c = tells_level

pub returns-clause-any : goal.returns-clause-any
returns-clause-any c = tells_any
