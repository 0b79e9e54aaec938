use Rattle.bus_margins.proofs.Levels.{any_is_room, any_settles, any_joins}
use Rattle.bus_margins.proofs.laws.any_settles.Goals as goal

pub returns-clause-exact : goal.returns-clause-exact
returns-clause-exact c = any_is_room

pub returns-clause-settles : goal.returns-clause-settles
returns-clause-settles c = any_settles

pub returns-clause-joins : goal.returns-clause-joins
returns-clause-joins c = any_joins
