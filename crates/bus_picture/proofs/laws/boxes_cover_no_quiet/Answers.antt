use Rattle.bus_picture.proofs.LawLemmas.{boxes_cover_no_quiet}
use Rattle.bus_picture.proofs.laws.boxes_cover_no_quiet.Goals as goal

pub returns : goal.returns
returns c = boxes_cover_no_quiet
