use Rattle.bus_diagnosis.proofs.LawLemmas as laws
use Rattle.bus_diagnosis.proofs.laws.named_item_is_first.Goals as goal

pub returns : goal.returns
returns c = laws.named_item_is_first
