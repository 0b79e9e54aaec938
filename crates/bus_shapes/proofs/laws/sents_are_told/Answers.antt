use Rattle.bus_shapes.proofs.SendingLaws.{all_told}
use Rattle.bus_shapes.proofs.laws.sents_are_told.Goals as goal

pub returns : goal.returns
returns c = all_told
