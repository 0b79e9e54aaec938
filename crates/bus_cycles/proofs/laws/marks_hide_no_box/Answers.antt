use Rattle.bus_cycles.proofs.OrderLemmas.{marks_hide_no_box}
use Rattle.bus_cycles.proofs.laws.marks_hide_no_box.Goals as goal

pub returns : goal.returns
returns c = marks_hide_no_box
