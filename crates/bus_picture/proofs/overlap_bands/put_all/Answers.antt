use Rattle.std.proofs.Common.{List, ℕ, subst, ◌∙◌}
use Rattle.bus_outer.specs.Texts.{Adds}
use Rattle.bus_outer.proofs.TextLaws.{◌▸◌, adds_nothing}
use Rattle.bus_picture.proofs.OverlapBandLemmas.{begun, ended, took}
use Rattle.bus_picture.proofs.overlap_bands.put_all.Goals as goal

pub loop-sent-init : goal.loop-sent-init
loop-sent-init g c =
    begun (λ (t : List ℕ). Adds g.K.Sink.held g.K.Sink.faults c.args.sink.now c.args.sink.now c.args.text.now c.args.text.now t)
    c.args.scale.now c.args.bottom c.args.list.now c.into_iter-sent-iterator.result
    (c.into_iter-sent-iterator.ensures.into_iter_gives ∙ c.new-sent-items.ensures)
    (adds_nothing g.K.Sink.held g.K.Sink.faults c.args.sink.now c.args.text.now)

pub loop-sent-preserved : goal.loop-sent-preserved
loop-sent-preserved g c =
    took (λ (t : List ℕ). Adds g.K.Sink.held g.K.Sink.faults c.args.sink.now c.loop-sent.sink c.args.text.now c.loop-sent.text t)
    (λ (t : List ℕ). Adds g.K.Sink.held g.K.Sink.faults c.args.sink.now c.take-last.new.sink c.args.text.now c.take-last.new.text t)
    c.args.scale.now c.args.bottom c.args.list.now c.loop-sent.last c.take-last.result c.in-Some.sent
    c.loop-sent.sent-iterator c.next.new.self c.loop-sent.invariant c.in-Some.ensures.steps c.take-last.ensures.last
    (c.loop-sent.invariant.adds ▸ c.take-last.ensures.adds)

pub returns : goal.returns
returns g c =
    subst (λ (t : List ℕ). Adds g.K.Sink.held g.K.Sink.faults c.args.sink.now c.put_last.new.sink c.args.text.now c.put_last.new.text t)
    (ended (λ (t : List ℕ). Adds g.K.Sink.held g.K.Sink.faults c.args.sink.now c.loop-sent.sink c.args.text.now c.loop-sent.text t)
    c.args.scale.now c.args.bottom c.args.list.now c.loop-sent.last c.loop-sent.sent-iterator c.loop-sent.invariant c.in-None.ensures.steps.0)
    (c.loop-sent.invariant.adds ▸ c.put_last.ensures)
