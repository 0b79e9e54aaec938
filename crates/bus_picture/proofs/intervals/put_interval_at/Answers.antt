use Rattle.std.proofs.Common.{◌++◌, Bool, [], cond, sym, subst, ◌∙◌}
use Rattle.bus_outer.specs.Texts.{Adds}
use Rattle.bus_outer.proofs.TextLaws.{◌▸◌}
use Rattle.bus_picture.specs.Timers.{interval_end, interval_text, interval_words}
use Rattle.bus_picture.proofs.intervals.put_interval_at.Goals as goal

pub returns-then-is_drawn : goal.returns-then-is_drawn
returns-then-is_drawn g c =
    subst (λ (b : Bool). Adds g.K.Sink.held g.K.Sink.faults c.args.sink.now c.put_interval_words.new.sink c.args.text.now c.put_interval_words.new.text
    (cond b (interval_text c.args.scale.now c.args.timings.top c.args.from c.args.to
    ++ interval_end c.args.scale.now c.args.timings.top c.args.timings.ti c.args.from c.args.to
    ++ interval_words c.args.scale.now c.args.timings.k c.args.timings.top c.args.timings.ti c.args.from c.args.to) []))
    (sym c.if-is_drawn.true ∙ c.is_drawn.ensures.value) (c.put_interval.ensures ▸ c.put_interval_end.ensures ▸ c.put_interval_words.ensures)
