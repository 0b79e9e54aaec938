use Rattle.bus_findings.proofs.FaultLemmas.{good_no_fault, no_fault_is_good, good_file_no_fault, course_file_no_fault}
use Rattle.bus_findings.proofs.laws.good_buses_have_no_fault.Goals as goal

pub returns-clause-clean : goal.returns-clause-clean
returns-clause-clean c = good_no_fault

pub returns-clause-back : goal.returns-clause-back
returns-clause-back c = no_fault_is_good

pub returns-clause-keepers : goal.returns-clause-keepers
returns-clause-keepers c = good_file_no_fault c.files_are_unblamed.ensures.keepers

pub returns-clause-courses : goal.returns-clause-courses
returns-clause-courses c = course_file_no_fault c.files_are_unblamed.ensures.courses
