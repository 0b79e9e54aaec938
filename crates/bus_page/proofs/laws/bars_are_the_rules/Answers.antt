use Rattle.bus_page.proofs.BarLemmas as laws
use Rattle.bus_page.proofs.laws.bars_are_the_rules.Goals as goal

pub returns : goal.returns
returns c = laws.bars_are_the_rules c.limits_tell_bearing.ensures c.accepted_bear_zero.ensures.zero
