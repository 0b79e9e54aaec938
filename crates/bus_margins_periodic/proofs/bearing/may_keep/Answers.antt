use Rattle.std.proofs.Common.{◌≡◌, ◌||◌, false, sym, ap, ◌∙◌}
use Rattle.bus_margins.specs.Buses.{bus_of}
use Rattle.bus_margins_periodic.specs.Least.{holds}
use Rattle.bus_margins_periodic.specs.Rooms.{clock_room, order_room}
use Rattle.bus_margins_periodic.specs.inside.Cases.{may_keep}
use Rattle.bus_margins_periodic.proofs.bearing.may_keep.Goals as goal

pub returns-else-holds : goal.returns-else-holds
returns-else-holds c =
    let no' : holds (clock_room (bus_of c.with_part-other.result c.args.table.now)) ≡ false =
    sym (c.holds.ensures ∙ ap holds c.clock_room.ensures) ∙ c.if-holds.false in
    c.order_holds.ensures ∙ sym (ap (λ t. t || holds (order_room (bus_of c.with_part-other.result c.args.table.now))) no')
    ∙ ap (λ b. may_keep (bus_of b c.args.table.now)) c.with_part-other.ensures
