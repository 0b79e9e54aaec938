use Rattle.bus_recording.proofs.Noted.{noted_clean}
use Rattle.bus_recording.proofs.Rounded.{ends_noted, rounded_clean}
use Rattle.bus_recording.proofs.laws.rounding_is_clean.Goals as goal

pub returns-clause-any : goal.returns-clause-any
returns-clause-any c = rounded_clean

pub returns-clause-ends : goal.returns-clause-ends
returns-clause-ends c = ends_noted

pub returns-clause-noted : goal.returns-clause-noted
returns-clause-noted c = noted_clean
