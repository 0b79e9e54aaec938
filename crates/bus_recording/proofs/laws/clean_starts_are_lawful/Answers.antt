use Rattle.bus_recording.proofs.Exact.{clean_starts_are_due, clean_starts_are_lawful}
use Rattle.bus_recording.proofs.laws.clean_starts_are_lawful.Goals as goal

pub returns-clause-due : goal.returns-clause-due
returns-clause-due c = clean_starts_are_due

pub returns-clause-lawful : goal.returns-clause-lawful
returns-clause-lawful c = clean_starts_are_lawful
