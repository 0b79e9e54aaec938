use Rattle.bus_recording.proofs.Noted.{noted_course_clean}
use Rattle.bus_recording.proofs.Recorded.{course_clean, heard_course_clean}
use Rattle.bus_recording.proofs.laws.there_is_no_false_alarm.Goals as goal

pub returns-clause-placed : goal.returns-clause-placed
returns-clause-placed c = course_clean

pub returns-clause-heard : goal.returns-clause-heard
returns-clause-heard c = heard_course_clean

pub returns-clause-noted : goal.returns-clause-noted
returns-clause-noted c = noted_course_clean
