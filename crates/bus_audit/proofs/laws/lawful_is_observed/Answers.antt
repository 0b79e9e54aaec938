use Rattle.bus_audit.proofs.StatedLemmas.{lawful_is_observed}
use Rattle.bus_audit.proofs.laws.lawful_is_observed.Goals as goal

pub returns : goal.returns
returns c = record { hands = lawful_is_observed c.no_breach_is_right.ensures.breach c.filling_messages_fit.ensures.fits }
