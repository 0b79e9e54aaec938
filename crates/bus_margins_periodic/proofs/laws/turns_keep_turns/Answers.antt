use Rattle.bus_margins_periodic.proofs.LevelLaws.{turns_is_room, turns_keep_turns}
use Rattle.bus_margins_periodic.proofs.laws.turns_keep_turns.Goals as goal

pub returns-clause-room : goal.returns-clause-room
returns-clause-room c = turns_is_room

pub returns-clause-turns : goal.returns-clause-turns
returns-clause-turns c = turns_keep_turns
