use Rattle.bus_page.proofs.LawLemmas as laws
use Rattle.bus_page.proofs.laws.widths_are_of_the_scale.Goals as goal

pub returns : goal.returns
returns c = laws.widths_are_of_the_scale
