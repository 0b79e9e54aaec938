use Rattle.bus_made.proofs.Freest.{free_is_freest}
use Rattle.bus_made.proofs.laws.free_is_freest.Goals as goal

pub returns : goal.returns
returns c = free_is_freest
