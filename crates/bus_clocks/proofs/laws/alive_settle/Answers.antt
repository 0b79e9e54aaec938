use Rattle.bus_clocks.proofs.Parts.{alive_settle, parts_have_courses, parts_have_room}
use Rattle.bus_clocks.proofs.laws.alive_settle.Goals as goal

pub returns-clause-room : goal.returns-clause-room
returns-clause-room c = parts_have_room

pub returns-clause-courses : goal.returns-clause-courses
returns-clause-courses c = parts_have_courses

pub returns-clause-alive : goal.returns-clause-alive
returns-clause-alive c = alive_settle
