use Rattle.bus_recording.proofs.Recorded.{heard_clean, placed_clean}
use Rattle.bus_recording.proofs.Straight.{straight_clean}
use Rattle.bus_recording.proofs.laws.keeping_is_clean.Goals as goal

pub returns-clause-placed : goal.returns-clause-placed
returns-clause-placed c = placed_clean

pub returns-clause-heard : goal.returns-clause-heard
returns-clause-heard c = heard_clean

pub returns-clause-straight : goal.returns-clause-straight
returns-clause-straight c = straight_clean
