use Rattle.bus_cycles.proofs.CutLemmas.{open_hides_none, open_where_cut}
use Rattle.bus_cycles.proofs.laws.cut_are_open.Goals as goal

pub returns-clause-open : goal.returns-clause-open
returns-clause-open c = open_where_cut

pub returns-clause-boxes : goal.returns-clause-boxes
returns-clause-boxes c = open_hides_none c.places_keep_order.ensures.rise c.places_keep_order.ensures.within
