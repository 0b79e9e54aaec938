use Rattle.std.proofs.Common.{List, ℕ, subst, ◌∙◌}
use Rattle.bus_outer.specs.Texts.{Adds}
use Rattle.bus_outer.proofs.TextLaws.{◌▸◌}
use Rattle.bus_dump.specs.DumpTexts.{value_line}
use Rattle.bus_dump.specs.Signals.{bus_signals, lane_signals}
use Rattle.bus_dump.specs.inside.TimerWalks.{scene_of}
use Rattle.bus_dump.proofs.LaneLemmas.{all_by_lanes}
use Rattle.bus_dump.proofs.layout.Layout.put_lines.Goals as goal

pub returns : goal.returns
returns g c =
    subst (λ (t : List ℕ). Adds g.K.Sink.held g.K.Sink.faults c.args.sink.now c.put_lane_lines.new.sink c.args.text.now c.put_lane_lines.new.text t)
    (all_by_lanes (value_line (scene_of c.args.scene.now)) (lane_signals c.args.self.now.dump) c.as_slice.result.now (bus_signals c.args.self.now.dump) c.as_slice-2.result.now c.args.self.now.lanes.items
    (c.as_slice.ensures.value ∙ c.bus_signals.ensures) c.as_slice-2.ensures.value)
    (c.put_lines.ensures ▸ c.put_lane_lines.ensures)
