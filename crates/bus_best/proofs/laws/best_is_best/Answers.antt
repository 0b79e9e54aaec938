use Rattle.bus_best.proofs.Best.{best_is_best}
use Rattle.bus_best.proofs.laws.best_is_best.Goals as goal

pub returns : goal.returns
returns c = best_is_best
