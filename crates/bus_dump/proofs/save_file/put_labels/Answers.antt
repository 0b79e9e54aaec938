use Rattle.std.proofs.Common.{List, ℕ, false, sym, subst, arith}
use Rattle.bus_strings.proofs.ListLaws.{flat_map-next}
use Rattle.bus_outer.specs.Texts.{Adds}
use Rattle.bus_outer.proofs.TextLaws.{◌▸◌}
use Rattle.bus_dump.specs.Lanes.{lane_with}
use Rattle.bus_dump.specs.SaveFiles.{label_shown}
use Rattle.std.proofs.lemmas.Grind.{common_steps}
use Rattle.bus_dump.proofs.save_file.put_labels.Goals as goal

pub loop-lane-preserved : goal.loop-lane-preserved
loop-lane-preserved g c =
    subst (λ (t : List ℕ). Adds g.K.Sink.held g.K.Sink.faults c.args.sink.now c.put_label.new.sink c.args.text.now c.put_label.new.text t)
    (sym (flat_map-next label_shown c.args.lanes.now c.loop-lane.lane-index (lane_with false 0) c.loop-lane-test.true))
    (c.loop-lane.invariant ▸ c.put_label.ensures)

pub returns : goal.returns
returns g c = grind (arith, common_steps)
