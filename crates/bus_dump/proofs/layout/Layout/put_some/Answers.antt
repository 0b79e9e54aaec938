use Rattle.std.proofs.Common.{List, ℕ, ◌++◌, subst, ap, ◌∙◌}
use Rattle.bus_outer.specs.Texts.{Adds}
use Rattle.bus_outer.proofs.TextLaws.{◌▸◌}
use Rattle.bus_dump.specs.DumpTexts.{some_changes, stamp}
use Rattle.bus_dump.specs.inside.Layouts.{layout_signals}
use Rattle.bus_dump.specs.Signals.{bus_signals, lane_signals}
use Rattle.bus_dump.specs.inside.Walks.{change_put}
use Rattle.bus_dump.specs.inside.TimerWalks.{scene_of}
use Rattle.bus_dump.proofs.ChangeLemmas.{changed_put}
use Rattle.bus_dump.proofs.LaneLemmas.{put_by_lanes}
use Rattle.bus_dump.proofs.layout.Layout.put_some.Goals as goal

pub returns : goal.returns
unfolding some_changes
returns g c =
    let before = scene_of c.args.before.now in
    let now = scene_of c.args.now.now in
    subst (λ (t : List ℕ). Adds g.K.Sink.held g.K.Sink.faults c.args.sink.now c.put_all_changes.new.sink c.args.text.now c.put_all_changes.new.text t)
    (put_by_lanes (change_put before now) (lane_signals c.args.self.now.dump) (stamp c.args.t) c.as_slice.result.now (bus_signals c.args.self.now.dump)
    c.as_slice-2.result.now c.args.self.now.lanes.items
    (c.as_slice.ensures.value ∙ c.bus_signals.ensures) c.as_slice-2.ensures.value
    ∙ ap (λ l. stamp c.args.t ++ l) (changed_put before now (layout_signals c.args.self.now)))
    (c.put_stamp.ensures ▸ c.put_changed.ensures ▸ c.put_all_changes.ensures)
