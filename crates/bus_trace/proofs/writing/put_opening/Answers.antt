use Rattle.std.proofs.Common.{refl, subst, List, ℕ}
use Rattle.bus_outer.specs.Texts.{Adds}
use Rattle.bus_outer.proofs.TextLaws.{◌▸◌}
use Rattle.bus_trace.proofs.WriteTexts.{opening_as_read}
use Rattle.bus_trace.proofs.writing.put_opening.Goals as goal

pub returns : goal.returns
returns g c =
    let e = opening_as_read c.args.trace.now c.horizon.result c.holds.result.now c.horizon.ensures.value c.holds.ensures.value in
    subst (λ (t : List ℕ). Adds g.K.Sink.held g.K.Sink.faults c.args.sink.now c.put_holds.new.sink c.args.text.now c.put_holds.new.text t) e
    (c.put_horizon.ensures ▸ c.put_holds.ensures)
