use Rattle.bus_recording.proofs.Admissible.{admissible_keeps}
use Rattle.bus_recording.proofs.Courses.{courses_keep}
use Rattle.bus_recording.proofs.laws.senders_keep_bounds.Goals as goal

pub returns-clause-courses : goal.returns-clause-courses
returns-clause-courses c = courses_keep

pub returns-clause-admissible : goal.returns-clause-admissible
returns-clause-admissible c = admissible_keeps
