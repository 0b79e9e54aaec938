use Rattle.bus_tool.proofs.HoldLawLemmas.{senders_have_holds}
use Rattle.bus_tool.proofs.laws.senders_have_holds.Goals as goal

pub returns : goal.returns
returns c = senders_have_holds
