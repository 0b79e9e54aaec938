use Rattle.bus_recording.proofs.Finer.{gap_in_ticks, interval_up, late_in_ticks, next_in_ticks, sync_in_ticks}
use Rattle.bus_recording.proofs.Rounded.{rounded_recorded}
use Rattle.bus_recording.proofs.laws.rounding_keeps_amounts.Goals as goal

pub returns-clause-recorded : goal.returns-clause-recorded
returns-clause-recorded c = rounded_recorded

pub returns-clause-interval : goal.returns-clause-interval
returns-clause-interval c = interval_up

pub returns-clause-gap : goal.returns-clause-gap
returns-clause-gap c = gap_in_ticks

pub returns-clause-sync : goal.returns-clause-sync
returns-clause-sync c = sync_in_ticks

pub returns-clause-late : goal.returns-clause-late
returns-clause-late c = late_in_ticks

pub returns-clause-next : goal.returns-clause-next
returns-clause-next c = next_in_ticks
