use Rattle.bus_reach.proofs.Keeping.{zero_is_borne, shorter_is_borne}
use Rattle.bus_reach.proofs.laws.shorter_is_borne.Goals as goal

pub returns : goal.returns
returns c = record { zero = zero_is_borne; shorter = shorter_is_borne }
