use Rattle.bus_table.proofs.MayStandLaws as laws
use Rattle.bus_table.proofs.laws.what_may_stand_goes_on.Goals as goal

pub returns : goal.returns
returns c = laws.what_may_stand_goes_on
