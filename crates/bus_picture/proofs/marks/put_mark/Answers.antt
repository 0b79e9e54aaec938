use Rattle.std.proofs.Common.{ℕ, subst}
use Rattle.bus_outer.specs.Texts.{Adds}
use Rattle.bus_picture.specs.Marks.{mark_text}
use Rattle.bus_picture.proofs.marks.put_mark.Goals as goal

pub returns : goal.returns
returns g c =
    subst (λ (left : ℕ). Adds g.K.Sink.held g.K.Sink.faults c.args.sink.now c.put_mark_at.new.sink c.args.text.now c.put_mark_at.new.text
    (mark_text left c.args.terminal c.args.lanes.now c.args.answer.now)) c.place-left.ensures.value c.put_mark_at.ensures
