use Rattle.bus_page.proofs.SyncLemmas as laws
use Rattle.bus_page.proofs.laws.each_is_synchronized.Goals as goal

pub returns : goal.returns
returns c = laws.each_is_synchronized
