use Rattle.std.proofs.Common.{Option, sym, subst}
use Rattle.bus_outer.specs.Texts.{Adds}
use Rattle.bus_picture.specs.declared.cluster.Cluster.{Cluster}
use Rattle.bus_picture.specs.inside.Working.{last_written}
use Rattle.bus_picture.proofs.boxes.put_last.Goals as goal

pub returns-in-Some : goal.returns-in-Some
returns-in-Some g c =
    subst (λ (last : Option Cluster). Adds g.K.Sink.held g.K.Sink.faults c.args.sink.now c.put_cluster.new.sink c.args.text.now c.put_cluster.new.text
    (last_written c.args.canvas.now.scale c.args.canvas.now.receivers.now c.args.row.now c.args.canvas.now.list.now last)) (sym c.in-Some.is) c.put_cluster.ensures
