use Rattle.bus_page.proofs.BarLemmas as laws
use Rattle.bus_page.proofs.laws.rooms_are_the_rules.Goals as goal

pub returns : goal.returns
returns c = laws.rooms_are_the_rules
