use Rattle.std.proofs.Common.{List, ℕ, arith, sym, subst}
use Rattle.bus_outer.specs.Texts.{Adds}
use Rattle.bus_outer.proofs.TextLaws.{◌▸◌}
use Rattle.bus_picture.specs.TimeLines.{lane_timers}
use Rattle.bus_picture.proofs.LaneLemmas.{one_more}
use Rattle.bus_picture.proofs.timers.put_each.Goals as goal

pub loop-k-preserved : goal.loop-k-preserved
loop-k-preserved g c =
    subst (λ (t : List ℕ). Adds g.K.Sink.held g.K.Sink.faults c.args.sink.now c.put_lane_timers.new.sink c.args.text.now c.put_lane_timers.new.text t)
    (sym (one_more (lane_timers c.args.scale.now c.args.table.now c.args.trace.now) c.args.lanes.now c.loop-k.k _ (omega arith)))
    (c.loop-k.invariant ▸ c.put_lane_timers.ensures)
