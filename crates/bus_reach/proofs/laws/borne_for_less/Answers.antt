use Rattle.bus_reach.proofs.Lessening.{borne_for_less}
use Rattle.bus_reach.proofs.laws.borne_for_less.Goals as goal

pub returns : goal.returns
returns c = borne_for_less c.shorter_is_borne.ensures.shorter c.periodic_bearing_is_exact.ensures.exact
