use Rattle.std.proofs.Common.{List, ℕ, subst}
use Rattle.bus_outer.specs.Texts.{Adds}
use Rattle.bus_pen.proofs.class.put_name.Goals as goal

pub returns : goal.returns
returns g c =
    subst (λ (t : List ℕ). Adds g.K.Sink.held g.K.Sink.faults c.args.sink.now c.put.new.sink c.args.text.now c.put.new.self t) c.name.ensures c.put.ensures
