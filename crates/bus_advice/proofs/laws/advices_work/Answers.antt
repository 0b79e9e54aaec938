use Rattle.bus_advice.proofs.Working.{all_work}
use Rattle.bus_advice.proofs.laws.advices_work.Goals as goal

pub returns : goal.returns
returns c = all_work
