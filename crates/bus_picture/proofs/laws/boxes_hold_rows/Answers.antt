use Rattle.bus_picture.proofs.LawLemmas.{boxes_hold_rows}
use Rattle.bus_picture.proofs.laws.boxes_hold_rows.Goals as goal

pub returns : goal.returns
returns c = boxes_hold_rows
