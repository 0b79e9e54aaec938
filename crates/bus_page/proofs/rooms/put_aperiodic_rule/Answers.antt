use Rattle.std.proofs.Common.{List, ℕ, ◌++◌, ◌+◌, ◌-◌, ◌*◌, ◌/◌, ap, codes, subst, ◌∙◌}
use Rattle.std.specs.Prelude.{decimal}
use Rattle.bus_outer.specs.Texts.{Adds}
use Rattle.bus_outer.proofs.TextLaws.{◌▸◌}
use Rattle.std.specs.Prelude.{Option}
use Rattle.bus_page.specs.Rooms.{Span, rule_text}
use Rattle.bus_page.proofs.rooms.put_aperiodic_rule.Goals as goal

pub returns : goal.returns
returns g c =
    let text : Option Span → List ℕ = rule_text c.args.above c.args.name.now in
    subst (λ (t : List ℕ). Adds g.K.Sink.held g.K.Sink.faults c.args.sink.now c.put_rule.new.sink c.args.text.now c.put_rule.new.text t)
    (ap text c.aperiodic_span.ensures) c.put_rule.ensures
