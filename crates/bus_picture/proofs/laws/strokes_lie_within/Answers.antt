use Rattle.bus_picture.proofs.StrokeLemmas.{strokes_lie_within}
use Rattle.bus_picture.proofs.laws.strokes_lie_within.Goals as goal

pub returns : goal.returns
returns c = strokes_lie_within
