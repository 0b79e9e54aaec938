use Rattle.std.proofs.Common.{sym, ◌∙◌}
use Rattle.bus_timers.proofs.TestLemmas.{may_start_is}
use Rattle.bus_timers.proofs.plain.may_start.Goals as goal

pub returns : goal.returns
returns c =
    let decides = may_start_is c.args.timing c.args.past.now c.args.last in
    ((λ h. decides.0 (sym c.tested.ensures ∙ h)), (λ may. c.tested.ensures ∙ decides.1 may))
