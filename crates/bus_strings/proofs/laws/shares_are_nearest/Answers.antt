use Rattle.bus_strings.proofs.ShareLaws.{shares_are_nearest}
use Rattle.bus_strings.proofs.laws.shares_are_nearest.Goals as goal

pub returns : goal.returns
returns c = shares_are_nearest
