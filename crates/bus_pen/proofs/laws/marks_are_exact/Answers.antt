use Rattle.bus_pen.proofs.ExactLemmas.{exact}
use Rattle.bus_pen.proofs.laws.marks_are_exact.Goals as goal

pub returns : goal.returns
returns c = exact
