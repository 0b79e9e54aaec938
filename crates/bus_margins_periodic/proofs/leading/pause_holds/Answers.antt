use Rattle.std.proofs.Common.{ap, ◌∙◌}
use Rattle.bus_margins.specs.Buses.{bus_of}
use Rattle.bus_margins_periodic.specs.Least.{holds}
use Rattle.bus_margins_periodic.specs.Rooms.{pause_room}
use Rattle.bus_margins_periodic.proofs.leading.pause_holds.Goals as goal

pub returns : goal.returns
returns c = c.holds.ensures ∙ ap holds (c.pause_room.ensures ∙ ap (pause_room (bus_of c.args.bounds c.args.table.now)) c.round_end_of-ends.ensures.value)
