use Rattle.bus_recording.proofs.Found.{gap_found, interval_found, late_found, placed_steady, sync_found}
use Rattle.bus_recording.proofs.laws.great_faults_are_found.Goals as goal

pub returns-clause-interval : goal.returns-clause-interval
returns-clause-interval c = interval_found

pub returns-clause-gap : goal.returns-clause-gap
returns-clause-gap c = gap_found

pub returns-clause-sync : goal.returns-clause-sync
returns-clause-sync c = sync_found

pub returns-clause-late : goal.returns-clause-late
returns-clause-late c = late_found

pub returns-clause-steady : goal.returns-clause-steady
returns-clause-steady c = placed_steady
