use Rattle.bus_page.proofs.LawLemmas as laws
use Rattle.bus_page.proofs.laws.cycles_are_the_verdicts.Goals as goal

pub returns : goal.returns
returns c = laws.cycles_are_the_verdicts
