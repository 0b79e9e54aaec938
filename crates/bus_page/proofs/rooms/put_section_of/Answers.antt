use Rattle.std.proofs.Common.{◌++◌, subst}
use Rattle.bus_outer.specs.Texts.{Adds}
use Rattle.bus_outer.proofs.TextLaws.{◌▸◌}
use Rattle.bus_table.specs.declared.mode.Mode.{Mode}
use Rattle.bus_page.specs.Rooms.{mode_rooms, rooms_front}
use Rattle.bus_page.proofs.rooms.put_section_of.Goals as goal

pub returns : goal.returns
returns g c =
    let table = c.args.table.now in
    subst (λ (mode : Mode). Adds g.K.Sink.held g.K.Sink.faults c.args.sink.now c.put_mode_rooms.new.sink c.args.text.now c.put_mode_rooms.new.text
    (rooms_front mode ++ mode_rooms table.mode c.args.bounds table)) c.mode.ensures.value (c.put_front.ensures ▸ c.put_mode_rooms.ensures)
