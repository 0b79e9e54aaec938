use Rattle.std.proofs.Common.{List, ℕ, subst, ◌∙◌}
use Rattle.bus_outer.specs.Texts.{Adds}
use Rattle.bus_outer.proofs.TextLaws.{◌▸◌}
use Rattle.bus_dump.specs.DumpTexts.{declaration}
use Rattle.bus_dump.specs.Signals.{bus_signals, lane_signals}
use Rattle.bus_dump.proofs.LaneLemmas.{all_by_lanes}
use Rattle.bus_dump.proofs.layout.Layout.put_declarations.Goals as goal

pub returns : goal.returns
returns g c =
    subst (λ (t : List ℕ). Adds g.K.Sink.held g.K.Sink.faults c.args.sink.now c.declare_lanes.new.sink c.args.text.now c.declare_lanes.new.text t)
    (all_by_lanes (declaration) (lane_signals c.args.self.now.dump) c.as_slice.result.now (bus_signals c.args.self.now.dump) c.as_slice-2.result.now c.args.self.now.lanes.items
    (c.as_slice.ensures.value ∙ c.bus_signals.ensures) c.as_slice-2.ensures.value)
    (c.put_declarations.ensures ▸ c.declare_lanes.ensures)
