use Rattle.bus_explain.proofs.GapTimes as laws
use Rattle.bus_explain.proofs.laws.load_is_of_longest_cycle.Goals as goal

pub returns : goal.returns
returns c = laws.load_is_of_longest_cycle c.shares_are_nearest.ensures
