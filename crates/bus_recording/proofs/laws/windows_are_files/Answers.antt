use Rattle.bus_recording.proofs.Windowed.{window_is_file, window_is_told}
use Rattle.bus_recording.proofs.laws.windows_are_files.Goals as goal

pub returns-clause-file : goal.returns-clause-file
returns-clause-file c = window_is_file

pub returns-clause-told : goal.returns-clause-told
returns-clause-told c = window_is_told
