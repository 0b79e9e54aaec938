use Rattle.bus_exact.proofs.Courses.{lawful_is_course}
use Rattle.bus_exact.proofs.Ordering.{lawful_is_in_order}
use Rattle.bus_exact.proofs.laws.lawful_list_is_a_course.Goals as goal

pub returns-clause-course : goal.returns-clause-course
returns-clause-course c = lawful_is_course

pub returns-clause-order : goal.returns-clause-order
returns-clause-order c = lawful_is_in_order
