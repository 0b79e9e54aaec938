use Rattle.std.proofs.Common.{Bool, cond, sym, subst, ◌∙◌}
use Rattle.std.specs.Prelude.{nat_lt}
use Rattle.bus_outer.specs.Texts.{Adds}
use Rattle.bus_pen.specs.Scales.{place}
use Rattle.bus_picture.specs.Marks.{arrow_text, mark_text}
use Rattle.bus_picture.proofs.marks.put_breach_at.Goals as goal

pub returns-then-within : goal.returns-then-within
returns-then-within g c =
    subst (λ (b : Bool). Adds g.K.Sink.held g.K.Sink.faults c.args.sink.now c.put_mark.new.sink c.args.text.now c.put_mark.new.text
    (cond b (mark_text (place c.args.scale.now c.args.moment) c.args.terminal c.args.lanes.now c.args.answer.now)
    (arrow_text (nat_lt c.args.moment c.args.scale.now.from) c.args.answer.now)))
    (sym c.if-within.true ∙ c.has_moment-within.ensures) c.put_mark.ensures
