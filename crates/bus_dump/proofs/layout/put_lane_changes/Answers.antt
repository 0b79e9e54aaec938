use Rattle.std.proofs.Common.{List, ℕ, arith, sym, ap, subst, ◌∙◌}
use Rattle.std.specs.List.{flat_map}
use Rattle.bus_outer.specs.Texts.{Adds}
use Rattle.bus_outer.proofs.TextLaws.{adds_nothing}
use Rattle.bus_dump.specs.Signals.{lane_signals}
use Rattle.bus_dump.specs.declared.dump.Dump.{Dump}
use Rattle.bus_dump.specs.inside.Walks.{change_put}
use Rattle.bus_dump.specs.inside.TimerWalks.{scene_of}
use Rattle.bus_dump.proofs.LaneLemmas.{asked_put, still_lane_put}
use Rattle.bus_dump.proofs.layout.put_lane_changes.Goals as goal

pub returns-then-not-touched-lane : goal.returns-then-not-touched-lane
returns-then-not-touched-lane g c =
    subst (λ (t : List ℕ). Adds g.K.Sink.held g.K.Sink.faults c.args.sink.now c.args.sink.now c.args.text.now c.args.text.now t)
    (sym (still_lane_put c.args.dump c.args.lane (scene_of c.args.before.now) (scene_of c.args.now.now) (c.requires.touched c.args.lane.terminal (omega arith) c.if-not-touched-lane.true)))
    (adds_nothing g.K.Sink.held g.K.Sink.faults c.args.sink.now c.args.text.now)

pub returns : goal.returns
returns g c =
    let before = scene_of c.args.before.now in
    let now = scene_of c.args.now.now in
    subst (λ (t : List ℕ). Adds g.K.Sink.held g.K.Sink.faults c.args.sink.now c.put_changed.new.sink c.args.text.now c.put_changed.new.text t)
    (ap (flat_map (change_put before now)) (c.as_slice.ensures.value ∙ c.lane_signals.ensures ∙ ap (λ (d : Dump). lane_signals d c.args.lane) c.asked_dump-dump.ensures)
    ∙ asked_put c.args.dump c.args.now.now.told c.args.lane before now c.requires.tells)
    c.put_changed.ensures
