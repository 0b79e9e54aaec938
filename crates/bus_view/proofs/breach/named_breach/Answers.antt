use Rattle.std.proofs.Common.{◌<◌, Option, IfSome, sym, ap, subst, ◌∙◌}
use Rattle.bus_strings.specs.Limits.{horizon_limit}
use Rattle.bus_dump.specs.declared.breach.FirstBreach.{FirstBreach}
use Rattle.bus_view.specs.Due.{breach_of}
use Rattle.bus_view.proofs.SaveLemmas.{named_below}
use Rattle.bus_view.proofs.breach.named_breach.Goals as goal

pub returns-in-Ok-clause-value : goal.returns-in-Ok-clause-value
returns-in-Ok-clause-value c = c.breach_of.ensures ∙ ap breach_of c.in-Ok.ensures.value

pub returns-in-Ok-clause-below : goal.returns-in-Ok-clause-below
returns-in-Ok-clause-below c =
    subst (λ (b : Option FirstBreach). IfSome b (λ it. it.moment < horizon_limit)) (sym c.breach_of.ensures)
    (named_below c.args.table.now c.args.trace.now c.in-Ok.answer c.requires c.in-Ok.ensures.is)
