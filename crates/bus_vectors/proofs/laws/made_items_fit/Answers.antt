use Rattle.bus_vectors.proofs.ItemLemmas.{made_items_fit}
use Rattle.bus_vectors.proofs.laws.made_items_fit.Goals as goal

pub returns : goal.returns
returns c = made_items_fit
