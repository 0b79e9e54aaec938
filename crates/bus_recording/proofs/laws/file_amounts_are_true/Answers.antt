use Rattle.bus_recording.proofs.FileAmounts.{file_amounts_true, file_gap_true}
use Rattle.bus_recording.proofs.laws.file_amounts_are_true.Goals as goal

pub returns-clause-next : goal.returns-clause-next
returns-clause-next c = file_amounts_true

pub returns-clause-gap : goal.returns-clause-gap
returns-clause-gap c = file_gap_true
