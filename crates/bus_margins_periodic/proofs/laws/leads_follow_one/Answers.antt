use Rattle.bus_margins_periodic.proofs.LevelLaws.{leads_is_room, leads_follow_one}
use Rattle.bus_margins_periodic.proofs.laws.leads_follow_one.Goals as goal

pub returns-clause-room : goal.returns-clause-room
returns-clause-room c = leads_is_room

pub returns-clause-lead : goal.returns-clause-lead
returns-clause-lead c = leads_follow_one
