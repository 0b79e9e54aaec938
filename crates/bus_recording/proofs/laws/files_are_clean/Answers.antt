use Rattle.bus_recording.proofs.Filed.{course_file_clean, file_clean, file_recorded}
use Rattle.bus_recording.proofs.Until.{until_heard, until_heard_keeps, until_keeps, until_placed}
use Rattle.bus_recording.proofs.laws.files_are_clean.Goals as goal

pub returns-clause-kept : goal.returns-clause-kept
returns-clause-kept c = until_keeps

pub returns-clause-placed : goal.returns-clause-placed
returns-clause-placed c = until_placed

pub returns-clause-heard : goal.returns-clause-heard
returns-clause-heard c = until_heard_keeps

pub returns-clause-within : goal.returns-clause-within
returns-clause-within c = until_heard

pub returns-clause-file : goal.returns-clause-file
returns-clause-file c = file_clean

pub returns-clause-recorded : goal.returns-clause-recorded
returns-clause-recorded c = file_recorded

pub returns-clause-course : goal.returns-clause-course
returns-clause-course c = course_file_clean
