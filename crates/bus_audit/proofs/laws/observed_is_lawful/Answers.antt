use Rattle.bus_audit.proofs.ObservedLemmas.{observed_is_right, observed_is_clean}
use Rattle.bus_audit.proofs.laws.observed_is_lawful.Goals as goal

pub returns : goal.returns
returns c =
    record { right = observed_is_right c.test_decides.ensures c.no_breach_is_right.ensures.breach; clean = observed_is_clean c.test_decides.ensures }
