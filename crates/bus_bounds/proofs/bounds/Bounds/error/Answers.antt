use Rattle.std.proofs.Common.{rules}
use Rattle.bus_bounds.specs.Bounds.{drift}
use Rattle.bus_bounds.proofs.bounds.Bounds.error.Goals as goal

pub returns-clause-value : goal.returns-clause-value
unfolding drift
returns-clause-value c = rw (← c.self.view_is) (search rules)
