use Rattle.std.proofs.Common.{ℕ, ◌+◌, Bool, [], cond, sym, subst, ◌∙◌}
use Rattle.bus_outer.specs.Texts.{Adds}
use Rattle.bus_picture.specs.Timers.{sync_gap}
use Rattle.bus_picture.proofs.timers.put_sync_before.Goals as goal

pub returns-then-is_behind_gap : goal.returns-then-is_behind_gap
returns-then-is_behind_gap g c =
    subst (λ (b : Bool). Adds g.K.Sink.held g.K.Sink.faults c.args.sink.now c.put_sync_from.new.sink c.args.text.now c.put_sync_from.new.text
    (cond b (sync_gap c.args.scale.now c.args.top c.args.sg c.args.sent.now.before (c.args.sent.now.before + c.args.sg)) []))
    (sym c.if-is_behind_gap.true ∙ c.is_behind_gap.ensures.value)
    (subst (λ (n : ℕ). Adds g.K.Sink.held g.K.Sink.faults c.args.sink.now c.put_sync_from.new.sink c.args.text.now c.put_sync_from.new.text
    (sync_gap c.args.scale.now c.args.top c.args.sg c.args.sent.now.before (c.args.sent.now.before + n))) c.from.ensures c.put_sync_from.ensures)
