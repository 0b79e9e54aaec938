use Rattle.std.proofs.Common.{List, ℕ, arith, sym, subst}
use Rattle.bus_outer.specs.Texts.{Adds}
use Rattle.bus_outer.proofs.TextLaws.{◌▸◌}
use Rattle.bus_picture.proofs.LaneLemmas.{rows_more}
use Rattle.std.proofs.lemmas.Grind.{common_steps}
use Rattle.bus_picture.proofs.rows.put_lanes.Goals as goal

pub loop-k-preserved : goal.loop-k-preserved
loop-k-preserved g c =
    subst (λ (t : List ℕ). Adds g.K.Sink.held g.K.Sink.faults c.args.sink.now c.put_lane.new.sink c.args.text.now c.put_lane.new.text t)
    (sym (rows_more c.args.canvas.now.scale c.args.canvas.now.receivers.now c.args.canvas.now.list.now c.args.lanes.now c.loop-k.k _ (omega arith)))
    (c.loop-k.invariant ▸ c.put_lane.ensures)

pub returns : goal.returns
returns g c = grind (arith, common_steps)
