use Rattle.std.proofs.Common.{ℕ, subst}
use Rattle.bus_outer.specs.Texts.{Adds}
use Rattle.bus_picture.specs.Offsets.{ticks_text}
use Rattle.bus_picture.proofs.offsets.put_periodic.Goals as goal

pub returns : goal.returns
returns g c =
    subst (λ (ti : ℕ). Adds g.K.Sink.held g.K.Sink.faults c.args.sink.now c.put_ticks.new.sink c.args.text.now c.put_ticks.new.text
    (ticks_text c.args.scale.now c.args.top ti c.args.at c.args.held)) c.from-interval.ensures
    (subst (λ (at : ℕ). Adds g.K.Sink.held g.K.Sink.faults c.args.sink.now c.put_ticks.new.sink c.args.text.now c.put_ticks.new.text
    (ticks_text c.args.scale.now c.args.top c.from-interval.result at c.args.held)) c.from-offset.ensures
    (subst (λ (held : ℕ). Adds g.K.Sink.held g.K.Sink.faults c.args.sink.now c.put_ticks.new.sink c.args.text.now c.put_ticks.new.text
    (ticks_text c.args.scale.now c.args.top c.from-interval.result c.from-offset.result held)) c.from-most.ensures c.put_ticks.ensures))
