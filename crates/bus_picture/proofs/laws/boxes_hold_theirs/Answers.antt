use Rattle.bus_picture.proofs.LawLemmas.{boxes_hold_theirs}
use Rattle.bus_picture.proofs.laws.boxes_hold_theirs.Goals as goal

pub returns : goal.returns
returns c = boxes_hold_theirs
