use Rattle.bus_recording.proofs.Just.{just}
use Rattle.bus_recording.proofs.laws.findings_are_just.Goals as goal

pub returns : goal.returns
returns c = just
