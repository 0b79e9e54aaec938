use Rattle.std.proofs.Common.{◌+◌, Bool, [], cond, sym, subst, ◌∙◌}
use Rattle.bus_outer.specs.Texts.{Adds}
use Rattle.bus_pen.specs.declared.area.Area.{Area}
use Rattle.bus_picture.specs.declared.measures.TheConstants.{GAP_BELOW as gap_below}
use Rattle.bus_picture.specs.Timers.{line_area}
use Rattle.bus_picture.specs.inside.Starting.{words_over}
use Rattle.bus_picture.proofs.terminal_gaps.put_gap_words.Goals as goal

pub returns-then-is_drawn : goal.returns-then-is_drawn
returns-then-is_drawn g c =
    subst (λ (b : Bool). Adds g.K.Sink.held g.K.Sink.faults c.args.sink.now c.put_words_over.new.sink c.args.text.now c.put_words_over.new.text
    (cond b (words_over (line_area c.args.scale.now (c.args.top + gap_below) c.args.gap.from c.args.gap.to) c.args.top c.args.tg c.args.gap) []))
    (sym c.if-is_drawn.true ∙ c.is_drawn.ensures.value)
    (subst (λ (area : Area). Adds g.K.Sink.held g.K.Sink.faults c.args.sink.now c.put_words_over.new.sink c.args.text.now c.put_words_over.new.text
    (words_over area c.args.top c.args.tg c.args.gap)) c.line_area-area.ensures.value c.put_words_over.ensures)
