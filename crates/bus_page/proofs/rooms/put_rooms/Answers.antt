use Rattle.std.proofs.Common.{Option, sym, subst}
use Rattle.bus_bounds.specs.Bounds.{Bounds}
use Rattle.bus_outer.specs.Texts.{Adds}
use Rattle.bus_page.specs.Rooms.{rooms_text}
use Rattle.bus_page.proofs.rooms.put_rooms.Goals as goal

pub returns-in-Some : goal.returns-in-Some
returns-in-Some g c =
    subst (λ (asked : Option Bounds). Adds g.K.Sink.held g.K.Sink.faults c.args.sink.now c.put_section_of.new.sink c.args.text.now
    c.put_section_of.new.text (rooms_text asked c.args.table.now)) (sym c.in-Some.is) c.put_section_of.ensures
