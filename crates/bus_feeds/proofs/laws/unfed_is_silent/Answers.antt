use Rattle.bus_feeds.proofs.Feeding.{gives_nothing, adds_nothing}
use Rattle.bus_feeds.proofs.laws.unfed_is_silent.Goals as goal

pub returns-clause-alone : goal.returns-clause-alone
returns-clause-alone c = gives_nothing

pub returns-clause-beside : goal.returns-clause-beside
returns-clause-beside c = adds_nothing
