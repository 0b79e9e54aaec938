use Rattle.bus_picture.proofs.LawLemmas.{hatched_are_garbled}
use Rattle.bus_picture.proofs.laws.hatched_are_garbled.Goals as goal

pub returns : goal.returns
returns c = hatched_are_garbled c.sents_are_told.ensures
