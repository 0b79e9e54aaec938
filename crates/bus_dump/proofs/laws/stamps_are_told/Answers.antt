use Rattle.bus_dump.proofs.StampLemmas.{stamps_told}
use Rattle.bus_dump.proofs.laws.stamps_are_told.Goals as goal

pub returns : goal.returns
returns c = stamps_told
