use Rattle.bus_page.proofs.LawLemmas as laws
use Rattle.bus_page.proofs.laws.waits_are_latencies.Goals as goal

pub returns : goal.returns
returns c = laws.waits_are_latencies
