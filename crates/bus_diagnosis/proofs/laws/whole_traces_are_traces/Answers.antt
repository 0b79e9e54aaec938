use Rattle.bus_diagnosis.proofs.LawLemmas as laws
use Rattle.bus_diagnosis.proofs.laws.whole_traces_are_traces.Goals as goal

pub returns : goal.returns
returns c = laws.whole_traces_are_traces c.traces_read_back.ensures.only
