use Rattle.std.proofs.Common.{List, ℕ, subst, ◌∙◌}
use Rattle.bus_outer.specs.Texts.{Adds}
use Rattle.bus_outer.proofs.TextLaws.{◌▸◌, adds_nothing}
use Rattle.bus_picture.specs.Timers.{sync_before}
use Rattle.bus_picture.proofs.StartLemmas.{covers_all, covers_more, covers_none}
use Rattle.bus_picture.proofs.timers.put_bus_timer.Goals as goal

pub loop-sent-init : goal.loop-sent-init
loop-sent-init g c =
    covers_none (λ (t : List ℕ). Adds g.K.Sink.held g.K.Sink.faults c.args.sink.now c.args.sink.now c.args.text.now c.args.text.now t)
    (sync_before c.args.scale.now c.args.top c.args.sg) c.args.list.now c.into_iter-sent-iterator.result
    (c.into_iter-sent-iterator.ensures.into_iter_gives ∙ c.new-sent-items.ensures)
    (adds_nothing g.K.Sink.held g.K.Sink.faults c.args.sink.now c.args.text.now)

pub loop-sent-preserved : goal.loop-sent-preserved
loop-sent-preserved g c =
    covers_more (λ (t : List ℕ). Adds g.K.Sink.held g.K.Sink.faults c.args.sink.now c.loop-sent.sink c.args.text.now c.loop-sent.text t)
    (λ (t : List ℕ). Adds g.K.Sink.held g.K.Sink.faults c.args.sink.now c.put_sync_before.new.sink c.args.text.now c.put_sync_before.new.text t)
    (sync_before c.args.scale.now c.args.top c.args.sg) c.args.list.now c.loop-sent.sent-iterator c.next.new.self c.in-Some.sent c.loop-sent.invariant
    c.in-Some.ensures.steps (c.loop-sent.invariant.adds ▸ c.put_sync_before.ensures)

pub returns : goal.returns
returns g c =
    subst (λ (t : List ℕ). Adds g.K.Sink.held g.K.Sink.faults c.args.sink.now c.loop-sent.sink c.args.text.now c.loop-sent.text t)
    (covers_all (λ (t : List ℕ). Adds g.K.Sink.held g.K.Sink.faults c.args.sink.now c.loop-sent.sink c.args.text.now c.loop-sent.text t)
    (sync_before c.args.scale.now c.args.top c.args.sg) c.args.list.now c.loop-sent.sent-iterator c.loop-sent.invariant c.in-None.ensures.steps.0)
    c.loop-sent.invariant.adds
