use Rattle.std.proofs.Common.{List, ℕ, sym, subst}
use Rattle.bus_strings.proofs.ListLaws.{flat_map-next}
use Rattle.bus_outer.specs.Texts.{Adds}
use Rattle.bus_outer.proofs.TextLaws.{◌▸◌}
use Rattle.bus_page.specs.Intervals.{slot_text}
use Rattle.bus_page.proofs.interval.put_slots.Goals as goal

pub loop-slot-preserved : goal.loop-slot-preserved
loop-slot-preserved g c =
    let next = flat_map-next (slot_text c.args.scale.now) c.args.slots.now c.loop-slot.slot-index _ c.loop-slot-test.true in
    subst (λ (t : List ℕ). Adds g.K.Sink.held g.K.Sink.faults c.args.sink.now c.put_slot.new.sink c.args.text.now c.put_slot.new.text t) (sym next)
    (c.loop-slot.invariant ▸ c.put_slot.ensures)
