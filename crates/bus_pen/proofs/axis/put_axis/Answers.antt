use Rattle.std.proofs.Common.{ℕ, ◌++◌, subst}
use Rattle.bus_outer.specs.Texts.{Adds}
use Rattle.bus_outer.proofs.TextLaws.{◌▸◌}
use Rattle.bus_pen.specs.Axes.{marks_text, name_text}
use Rattle.bus_pen.proofs.axis.put_axis.Goals as goal

pub returns : goal.returns
returns g c =
    subst (λ (step : ℕ). Adds g.K.Sink.held g.K.Sink.faults c.args.sink.now c.put_marks.new.sink c.args.text.now c.put_marks.new.text
    (name_text c.args.axis.now step ++ marks_text c.args.scale.now c.args.axis.now step)) c.step-step.ensures.value
    (c.put_name.ensures ▸ c.put_marks.ensures)
