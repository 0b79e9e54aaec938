use Rattle.bus_picture.proofs.OffsetLemmas as lemmas
use Rattle.bus_picture.proofs.laws.offsets_are_marked.Goals as goal

pub returns : goal.returns
returns c = lemmas.offsets_are_marked
