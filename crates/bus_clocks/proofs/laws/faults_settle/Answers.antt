use Rattle.bus_clocks.proofs.GoOn.{courses_go_on}
use Rattle.bus_clocks.proofs.Faults.{faults_are_courses, faults_settle}
use Rattle.bus_clocks.proofs.laws.faults_settle.Goals as goal

pub returns-clause-courses : goal.returns-clause-courses
returns-clause-courses c = faults_are_courses

pub returns-clause-order : goal.returns-clause-order
returns-clause-order c = faults_settle

pub returns-clause-none : goal.returns-clause-none
returns-clause-none c = courses_go_on
