use Rattle.std.proofs.Common.{◌+◌, ap, ◌∙◌}
use Rattle.bus_margins.specs.Buses.{bus_of}
use Rattle.bus_margins_periodic.specs.Rooms.{held_room}
use Rattle.bus_margins_periodic.proofs.OrderLemmas.{one_more}
use Rattle.bus_margins_periodic.proofs.order.order_room.Goals as goal

pub loop-late-preserved : goal.loop-late-preserved
loop-late-preserved c =
    one_more (λ i. held_room (bus_of c.args.bounds c.args.table.now) (i + (bus_of c.args.bounds c.args.table.now).senders) i) c.loop-late.late c.loop-late.least
    c.held_room.result c.lesser-least.result c.loop-late.invariant
    (c.held_room.ensures ∙ ap (λ n. held_room (bus_of c.args.bounds c.args.table.now) (c.loop-late.late + n) c.loop-late.late) c.count-senders.ensures.value)
    c.lesser-least.ensures
