use Rattle.bus_dump.proofs.LaneLawLemmas.{lanes_agree}
use Rattle.bus_dump.proofs.laws.lanes_are_terminals.Goals as goal

pub returns : goal.returns
returns c = lanes_agree
