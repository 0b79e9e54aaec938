use Rattle.std.proofs.Common.{◌+◌, Bool, [], cond, sym, subst, ◌∙◌}
use Rattle.bus_outer.specs.Texts.{Adds}
use Rattle.bus_pen.specs.declared.area.Area.{Area}
use Rattle.bus_pen.specs.declared.class.Class.TheVariants.{Gap}
use Rattle.bus_pen.specs.Shapes.{box_text}
use Rattle.bus_picture.specs.declared.measures.TheConstants.{GAP_BELOW as gap_below}
use Rattle.bus_picture.specs.Timers.{line_area}
use Rattle.bus_picture.proofs.terminal_gaps.put_terminal_gap.Goals as goal

pub returns-then-is_drawn : goal.returns-then-is_drawn
returns-then-is_drawn g c =
    subst (λ (b : Bool). Adds g.K.Sink.held g.K.Sink.faults c.args.sink.now c.put_box.new.sink c.args.text.now c.put_box.new.text
    (cond b (box_text Gap (line_area c.args.scale.now (c.args.top + gap_below) c.args.gap.from c.args.gap.to)) []))
    (sym c.if-is_drawn.true ∙ c.is_drawn.ensures.value)
    (subst (λ (area : Area). Adds g.K.Sink.held g.K.Sink.faults c.args.sink.now c.put_box.new.sink c.args.text.now c.put_box.new.text
    (box_text Gap area)) c.line_area-area.ensures.value c.put_box.ensures)
