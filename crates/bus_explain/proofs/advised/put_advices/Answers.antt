use Rattle.std.proofs.Common.{List, ℕ, ap, subst}
use Rattle.bus_outer.specs.Texts.{Adds}
use Rattle.bus_outer.proofs.TextLaws.{◌▸◌}
use Rattle.bus_explain.specs.Advised.{advices_head}
use Rattle.bus_explain.proofs.advised.put_advices.Goals as goal

pub returns : goal.returns
returns g c =
    subst (λ (t : List ℕ). Adds g.K.Sink.held g.K.Sink.faults c.args.sink.now c.put_head.new.sink c.args.text.now c.put_head.new.text t)
    (ap advices_head c.is_empty.ensures) c.put_head.ensures
    ▸ c.put_lines.ensures
