use Rattle.bus_feeds.proofs.Feeding.{each_feed}
use Rattle.bus_feeds.proofs.laws.each_feed_gives.Goals as goal

pub returns : goal.returns
returns c = each_feed
