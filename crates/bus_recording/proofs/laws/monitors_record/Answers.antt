use Rattle.bus_recording.proofs.Noted.{there_are_recordings}
use Rattle.bus_recording.proofs.Recorded.{heard, placed}
use Rattle.bus_recording.proofs.Straight.{straight_placed}
use Rattle.bus_recording.proofs.laws.monitors_record.Goals as goal

pub returns-clause-placed : goal.returns-clause-placed
returns-clause-placed c = placed

pub returns-clause-heard : goal.returns-clause-heard
returns-clause-heard c = heard

pub returns-clause-straight : goal.returns-clause-straight
returns-clause-straight c = straight_placed

pub returns-clause-some : goal.returns-clause-some
returns-clause-some c = there_are_recordings
