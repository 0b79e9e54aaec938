use Rattle.bus_design.proofs.Made.{made_is_valid}
use Rattle.bus_design.proofs.laws.made_is_valid.Goals as goal

pub returns : goal.returns
returns c = made_is_valid
