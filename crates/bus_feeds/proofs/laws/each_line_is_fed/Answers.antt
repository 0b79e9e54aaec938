use Rattle.bus_feeds.proofs.Feeding.{each_line}
use Rattle.bus_feeds.proofs.laws.each_line_is_fed.Goals as goal

pub returns : goal.returns
returns c = each_line
