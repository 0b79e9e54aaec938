use Rattle.bus_cycles.proofs.WordLemmas.{word_hides_none}
use Rattle.bus_cycles.proofs.laws.breach_word_hides_none.Goals as goal

pub returns : goal.returns
returns c = word_hides_none c.places_keep_order.ensures.rise c.places_keep_order.ensures.within
