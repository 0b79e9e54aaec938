use Rattle.std.proofs.Common.{List, ℕ}
use Rattle.bus_outer.specs.Texts.{Adds}
use Rattle.bus_picture.specs.Timers.{sync_before}
use Rattle.bus_picture.specs.inside.Starting.{Covers}
use Rattle.bus_picture.proofs.timers.put_bus_timer.Given as goal

abbrev pub invariant-loop-sent : goal.invariant-loop-sent
invariant-loop-sent g l =
    Covers (λ (t : List ℕ). Adds g.K.Sink.held g.K.Sink.faults l.fn.sink l.sink l.fn.text l.text t) (sync_before l.scale l.top l.sg) l.list l.sent-iterator
