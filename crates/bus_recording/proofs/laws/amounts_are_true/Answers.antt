use Rattle.bus_recording.proofs.Amounts.{gap_near, gap_true, interval_exact, interval_true, late_true, next_in_row, sync_true}
use Rattle.bus_recording.proofs.laws.amounts_are_true.Goals as goal

pub returns-clause-row : goal.returns-clause-row
returns-clause-row c = next_in_row

pub returns-clause-interval : goal.returns-clause-interval
returns-clause-interval c = interval_true

pub returns-clause-exact : goal.returns-clause-exact
returns-clause-exact c = interval_exact

pub returns-clause-near : goal.returns-clause-near
returns-clause-near c = gap_near

pub returns-clause-gap : goal.returns-clause-gap
returns-clause-gap c = gap_true

pub returns-clause-sync : goal.returns-clause-sync
returns-clause-sync c = sync_true

pub returns-clause-late : goal.returns-clause-late
returns-clause-late c = late_true
