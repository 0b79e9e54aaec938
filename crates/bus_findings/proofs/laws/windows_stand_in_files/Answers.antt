use Rattle.bus_findings.proofs.WindowLemmas.{windows_are_of_courses, windows_keep}
use Rattle.bus_findings.proofs.laws.windows_stand_in_files.Goals as goal

pub returns-clause-keep : goal.returns-clause-keep
returns-clause-keep c = windows_keep c.windows_are_files.ensures.file c.windows_are_files.ensures.told

pub returns-clause-courses : goal.returns-clause-courses
returns-clause-courses c = windows_are_of_courses c.windows_are_files.ensures.file c.windows_are_files.ensures.told
