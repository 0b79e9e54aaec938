use Rattle.std.proofs.Common.{List, ℕ, subst}
use Rattle.bus_outer.specs.Texts.{Adds}
use Rattle.bus_filter.proofs.KeyLemmas.{same_put}
use Rattle.bus_filter.proofs.writing.put_string.Goals as goal

pub returns : goal.returns
returns g c =
    subst (λ (t : List ℕ). Adds g.K.Sink.held g.K.Sink.faults c.args.sink.now c.put_takes.new.sink c.args.text.now c.put_takes.new.text t)
    (same_put c.args.moment c.args.string.now c.label.result c.lines_of.result.now c.args.takes.now c.label.ensures.value c.lines_of.ensures.all) c.put_takes.ensures
