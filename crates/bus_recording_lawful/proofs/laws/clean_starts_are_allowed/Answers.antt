use Rattle.bus_recording_lawful.proofs.Local.{clean_starts_are_allowed}
use Rattle.bus_recording_lawful.proofs.laws.clean_starts_are_allowed.Goals as goal

pub returns : goal.returns
returns c = clean_starts_are_allowed c.clean_starts_are_lawful.ensures.due
