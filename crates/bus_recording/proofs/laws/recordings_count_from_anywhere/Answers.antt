use Rattle.bus_recording.proofs.Names.{names_free}
use Rattle.bus_recording.proofs.Unshifted.{counts_from_anywhere, gap_same, interval_same, late_same, next_same, sync_same}
use Rattle.bus_recording.proofs.laws.recordings_count_from_anywhere.Goals as goal

pub returns-clause-next : goal.returns-clause-next
returns-clause-next c = next_same

pub returns-clause-interval : goal.returns-clause-interval
returns-clause-interval c = interval_same

pub returns-clause-gap : goal.returns-clause-gap
returns-clause-gap c = gap_same

pub returns-clause-sync : goal.returns-clause-sync
returns-clause-sync c = sync_same

pub returns-clause-late : goal.returns-clause-late
returns-clause-late c = late_same

pub returns-clause-moments : goal.returns-clause-moments
returns-clause-moments c = counts_from_anywhere

pub returns-clause-names : goal.returns-clause-names
returns-clause-names c = names_free
