use Rattle.bus_recording.proofs.LateWalk.{late_amount}
use Rattle.bus_recording.proofs.SyncWalk.{gap_amount}
use Rattle.bus_recording.proofs.laws.amounts_are_computed.Goals as goal

pub returns-clause-gap : goal.returns-clause-gap
returns-clause-gap c = gap_amount

pub returns-clause-late : goal.returns-clause-late
returns-clause-late c = late_amount
