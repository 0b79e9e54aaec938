use Rattle.bus_diagnosis.proofs.LawLemmas as laws
use Rattle.bus_diagnosis.proofs.laws.right_messages_run.Goals as goal

pub returns : goal.returns
returns c = laws.right_messages_run
