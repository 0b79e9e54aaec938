use Rattle.std.proofs.Common.{List, ℕ}
use Rattle.bus_outer.specs.Texts.{Adds}
use Rattle.bus_picture.specs.inside.Banding.{Banding}
use Rattle.bus_picture.proofs.overlap_bands.put_all.Given as goal

abbrev pub invariant-loop-sent : goal.invariant-loop-sent
invariant-loop-sent g l =
    Banding (λ (t : List ℕ). Adds g.K.Sink.held g.K.Sink.faults l.fn.sink l.sink l.fn.text l.text t) l.scale l.bottom l.list l.last l.sent-iterator
