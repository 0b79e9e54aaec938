use Rattle.std.proofs.Common.{◌<◌, Option, ℕ, IfSome, sym, ap, subst, ◌∙◌}
use Rattle.bus_strings.specs.Limits.{horizon_limit}
use Rattle.bus_view.specs.Due.{breach_moment}
use Rattle.bus_view.proofs.SaveLemmas.{breach_below}
use Rattle.bus_view.proofs.breach.first_breach.Goals as goal

pub returns-in-Ok-clause-value : goal.returns-in-Ok-clause-value
returns-in-Ok-clause-value c = c.breach_moment.ensures ∙ ap breach_moment c.in-Ok.ensures.value

pub returns-in-Ok-clause-below : goal.returns-in-Ok-clause-below
returns-in-Ok-clause-below c =
    subst (λ (b : Option ℕ). IfSome b (λ t. t < horizon_limit)) (sym c.breach_moment.ensures)
    (breach_below c.args.table.now c.args.trace.now c.in-Ok.answer c.requires c.in-Ok.ensures.is)
