use Rattle.std.proofs.Common.{Bool, [], cond, sym, subst, ◌∙◌}
use Rattle.bus_outer.specs.Texts.{Adds}
use Rattle.bus_picture.specs.Rows.{cluster_text}
use Rattle.bus_picture.proofs.boxes.put_unshared.Goals as goal

pub returns-then-not-shared : goal.returns-then-not-shared
returns-then-not-shared g c =
    subst (λ (b : Bool). Adds g.K.Sink.held g.K.Sink.faults c.args.sink.now c.put_cluster.new.sink c.args.text.now c.put_cluster.new.text
    (cond b [] (cluster_text c.args.canvas.now.scale c.args.canvas.now.receivers.now c.args.row.now c.args.canvas.now.list.now c.args.cluster.now)))
    (sym c.if-not-shared.true ∙ c.joins-shared.ensures) c.put_cluster.ensures
