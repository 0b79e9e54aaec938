use Rattle.bus_picture.proofs.AreaLemmas.{breaches_hide_no_box}
use Rattle.bus_picture.proofs.laws.breaches_hide_no_box.Goals as goal

pub returns : goal.returns
returns c = breaches_hide_no_box
