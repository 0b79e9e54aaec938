use Rattle.bus_clocks.proofs.Apart.{clear_is_heard_apart}
use Rattle.bus_clocks.proofs.laws.clear_is_heard_apart.Goals as goal

pub returns : goal.returns
returns c = clear_is_heard_apart
