use Rattle.std.proofs.Common.{List, ℕ, drop}
use Rattle.bus_outer.specs.Texts.{Adds}
use Rattle.bus_picture.specs.inside.Working.{Writing}
use Rattle.bus_picture.proofs.boxes.put_row.Given as goal

abbrev pub invariant-loop-sent : goal.invariant-loop-sent
invariant-loop-sent g l =
    Writing (λ (t : List ℕ). Adds g.K.Sink.held g.K.Sink.faults l.fn.sink l.sink l.fn.text l.text t) l.canvas.scale l.canvas.receivers.now l.row l.canvas.list.now l.last
    (drop l.sent-index l.sents)
