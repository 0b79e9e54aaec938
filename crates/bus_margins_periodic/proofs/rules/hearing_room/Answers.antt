use Rattle.std.proofs.Common.{ap, ◌∙◌}
use Rattle.bus_margins.specs.Buses.{bus_of}
use Rattle.bus_margins_periodic.specs.Least.{lesser}
use Rattle.bus_margins_periodic.specs.Rooms.{gap_room}
use Rattle.bus_margins_periodic.proofs.rules.hearing_room.Goals as goal

pub returns : goal.returns
returns c =
    c.lesser.ensures
    ∙ ap (λ a. lesser a c.gap_room-2.result) (c.gap_room.ensures ∙ ap (gap_room (bus_of c.args.bounds c.args.table.now)) c.drop_of.ensures.value)
    ∙ ap (lesser (gap_room (bus_of c.args.bounds c.args.table.now) (bus_of c.args.bounds c.args.table.now).drop))
    (c.gap_room-2.ensures ∙ ap (gap_room (bus_of c.args.bounds c.args.table.now)) c.delay.ensures.value)
