use Rattle.std.proofs.Common.{ℕ, ◌++◌, subst}
use Rattle.bus_outer.specs.Texts.{Adds}
use Rattle.bus_outer.proofs.TextLaws.{◌▸◌}
use Rattle.bus_pen.specs.Axes.{axis_text}
use Rattle.bus_cycles.specs.CyclesTexts.{lower_axis_to, upper_axis}
use Rattle.bus_cycles.proofs.plot.put_axes.Goals as goal

pub returns : goal.returns
returns g c =
    let scale = c.args.page.now.scale in
    subst (λ (n : ℕ). Adds g.K.Sink.held g.K.Sink.faults c.args.sink.now c.put_axis-2.new.sink c.args.text.now c.put_axis-2.new.text
    (axis_text scale upper_axis ++ axis_text scale (lower_axis_to n))) c.bottom.ensures.value (c.put_axis.ensures ▸ c.put_axis-2.ensures)
