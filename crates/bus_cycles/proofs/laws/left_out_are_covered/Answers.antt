use Rattle.bus_cycles.proofs.CoverLemmas.{left_out_covered}
use Rattle.bus_cycles.proofs.laws.left_out_are_covered.Goals as goal

pub returns : goal.returns
returns c = left_out_covered c.places_keep_order.ensures.rise
