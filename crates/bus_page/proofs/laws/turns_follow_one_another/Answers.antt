use Rattle.bus_page.proofs.LawLemmas as laws
use Rattle.bus_page.proofs.laws.turns_follow_one_another.Goals as goal

pub returns : goal.returns
returns c = laws.turns_follow_one_another
