use Rattle.bus_findings.proofs.FileLemmas.{clean_is_unblamed, unblamed_is_clean, files_unblamed, course_files_unblamed}
use Rattle.bus_findings.proofs.laws.files_are_unblamed.Goals as goal

pub returns-clause-clean : goal.returns-clause-clean
returns-clause-clean c = clean_is_unblamed

pub returns-clause-back : goal.returns-clause-back
returns-clause-back c = unblamed_is_clean

pub returns-clause-keepers : goal.returns-clause-keepers
returns-clause-keepers c = files_unblamed c.files_are_clean.ensures.file c.recordings_count_from_anywhere.ensures.names

pub returns-clause-courses : goal.returns-clause-courses
returns-clause-courses c = course_files_unblamed c.files_are_clean.ensures.course
