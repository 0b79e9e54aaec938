use Rattle.bus_explain.proofs.GapTimes as laws
use Rattle.bus_explain.proofs.laws.gaps_are_told.Goals as goal

pub returns : goal.returns
returns c = laws.gaps_are_told
