use Rattle.bus_page.proofs.LawLemmas as laws
use Rattle.bus_page.proofs.laws.slots_fill_the_interval.Goals as goal

pub returns : goal.returns
returns c = laws.slots_fill_the_interval c.load_is_of_longest_cycle.ensures
