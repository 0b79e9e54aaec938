use Rattle.std.proofs.Common.{ℕ, subst}
use Rattle.bus_outer.specs.Texts.{Adds}
use Rattle.bus_outer.proofs.TextLaws.{◌▸◌}
use Rattle.bus_picture.specs.Faults.{mark_at}
use Rattle.bus_picture.proofs.faults.put_fault.Goals as goal

pub returns : goal.returns
returns g c =
    subst (λ (left : ℕ). Adds g.K.Sink.held g.K.Sink.faults c.args.sink.now c.put_fault_lanes.new.sink c.args.text.now c.put_fault_lanes.new.text
    (mark_at c.args.near c.args.lanes.now left c.args.fault.now)) c.place-left.ensures.value
    (c.put_head.ensures ▸ c.put_dashes.ensures ▸ c.put_fault_lanes.ensures)
