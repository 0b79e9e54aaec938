use Rattle.bus_feeds.proofs.Strings.{shares_are_met}
use Rattle.bus_feeds.proofs.laws.shares_are_met.Goals as goal

pub returns : goal.returns
returns c = shares_are_met
