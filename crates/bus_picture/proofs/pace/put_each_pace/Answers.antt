use Rattle.std.proofs.Common.{List, ℕ, arith, sym, subst}
use Rattle.bus_outer.specs.Texts.{Adds}
use Rattle.bus_outer.proofs.TextLaws.{◌▸◌}
use Rattle.bus_picture.specs.Paces.{lane_pace}
use Rattle.bus_picture.proofs.LaneLemmas.{one_more}
use Rattle.std.proofs.lemmas.Grind.{common_steps}
use Rattle.bus_picture.proofs.pace.put_each_pace.Goals as goal

pub loop-k-preserved : goal.loop-k-preserved
loop-k-preserved g c =
    subst (λ (t : List ℕ). Adds g.K.Sink.held g.K.Sink.faults c.args.sink.now c.put_lane_pace.new.sink c.args.text.now c.put_lane_pace.new.text t)
    (sym (one_more (lane_pace c.args.scale.now c.args.list.now) c.args.lanes.now c.loop-k.k _ (omega arith)))
    (c.loop-k.invariant ▸ c.put_lane_pace.ensures)

pub returns : goal.returns
returns g c = grind (arith, common_steps)
