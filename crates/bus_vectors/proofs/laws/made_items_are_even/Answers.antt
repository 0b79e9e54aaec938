use Rattle.bus_vectors.proofs.ItemLemmas.{made_items_are_even}
use Rattle.bus_vectors.proofs.laws.made_items_are_even.Goals as goal

pub returns : goal.returns
returns c = made_items_are_even
