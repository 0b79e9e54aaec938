use Rattle.bus_table.proofs.HandFits.{hands_of_fit}
use Rattle.bus_table.proofs.laws.fitting_items_give_hands.Goals as goal

pub returns : goal.returns
returns c = hands_of_fit
