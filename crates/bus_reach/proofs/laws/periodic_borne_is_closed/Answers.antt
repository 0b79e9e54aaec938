use Rattle.std.proofs.Common.{sym, ◌∙◌}
use Rattle.bus_reach.proofs.Modes.{in_periodic}
use Rattle.bus_reach.proofs.laws.periodic_borne_is_closed.Goals as goal

pub returns : goal.returns
returns c = λ table hands most delay valid mode accepted even delays borne.
    c.borne_gaps_are_closed.ensures.closed table hands most delay valid mode accepted even delays (sym (in_periodic table most mode) ∙ borne)
