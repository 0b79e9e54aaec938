use Rattle.bus_reach.proofs.Accepting.{bear_zero_is_accepted}
use Rattle.bus_reach.proofs.Lessening.{accepted_bear_zero}
use Rattle.bus_reach.proofs.laws.accepted_bear_zero.Goals as goal

pub returns : goal.returns
returns c = record { zero = accepted_bear_zero c.shorter_is_borne.ensures.zero; accepted = bear_zero_is_accepted }
