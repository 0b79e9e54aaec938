use Rattle.std.proofs.Common.{ℕ, ◌/◌, subst}
use Rattle.bus_outer.specs.Texts.{Adds}
use Rattle.bus_pen.specs.Axes.{mark_at}
use Rattle.bus_pen.specs.Scales.{place}
use Rattle.bus_pen.proofs.axis.put_mark.Goals as goal

pub returns : goal.returns
returns g c =
    subst (λ (bits : ℕ). Adds g.K.Sink.held g.K.Sink.faults c.args.sink.now c.put_mark_at.new.sink c.args.text.now c.put_mark_at.new.text
    (mark_at c.args.axis.now (place c.args.scale.now c.args.t) (c.args.t / bits))) c.bits-bits.ensures.value
    (subst (λ (left : ℕ). Adds g.K.Sink.held g.K.Sink.faults c.args.sink.now c.put_mark_at.new.sink c.args.text.now c.put_mark_at.new.text
    (mark_at c.args.axis.now left (c.args.t / c.bits-bits.result))) c.place-left.ensures.value c.put_mark_at.ensures)
