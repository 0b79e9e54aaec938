use Rattle.std.proofs.Common.{List, ℕ, Bool, ap, ◌∙◌, subst}
use Rattle.bus_outer.specs.Texts.{Adds}
use Rattle.bus_regime.specs.Starting.{starts_itself}
use Rattle.bus_explain.specs.Starts.{start_lines}
use Rattle.bus_explain.proofs.starts.put_aperiodic.Goals as goal

pub returns : goal.returns
returns g c =
    subst (λ (t : List ℕ). Adds g.K.Sink.held g.K.Sink.faults c.args.sink.now c.put_start_lines.new.sink c.args.text.now c.put_start_lines.new.text t)
    (ap (λ (b : Bool). start_lines b c.never_parts-never.result c.args.advices.now) c.starts_itself-itself.ensures
    ∙ ap (λ (b : Bool). start_lines (starts_itself c.args.table.now) b c.args.advices.now) c.never_parts-never.ensures)
    c.put_start_lines.ensures
